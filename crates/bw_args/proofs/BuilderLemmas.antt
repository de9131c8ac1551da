-- What the calls on an option or a command make of it, by the one field that each of them sets: a search would look
-- through all the others.
use Rattle.std.proofs.Common.{◌≡◌, ◌∙◌, true, Some, List, ℕ, ◌||◌, ap, subst, Result, Ok, IfOk}
use Rattle.std.proofs.lemmas.Result.{IfOk-weaker}
use Rattle.std.specs.declared.alloc.AllocError.{AllocError}
use Rattle.std.specs.Borrow.{Bor}
use Rattle.clap.specs.Walk.{Rule}
use Rattle.clap.specs.Words.{app_of, rule_of}
use Rattle.clap.specs.Simple.{App, app_of_fields, shape_of, with_rule, with_subcommand}
use Rattle.clap.specs.Built.{AddsArg, AddsSubcommand}
use Rattle.clap.specs.declared.builder.texts.Texts.TheVariants.{One}
use Rattle.clap.specs.declared.builder.arg.Arg.{Arg}
use Rattle.clap.specs.declared.builder.action.ArgAction.TheVariants.{SetTrue}
use Rattle.clap.specs.declared.builder.Command.{Command}
use Rattle.clap.specs.declared.builder.Command.TheViews.{out-Command}
use Rattle.bw_args.specs.Commands.{IsCommand, IsOption}

-- `Arg::long`
pub arg_long : (a b : Arg) (long : Bor (List ℕ)) (rule : Rule) → IsOption rule a → b ≡ record a { long = Some long }
    → IsOption (record rule { long = Some long.now }) b
arg_long a b long rule is e =
    (ap rule_of e ∙ ap (λ (r : Rule). record r { long = Some long.now }) is.0, ap (λ x. x.global) e ∙ is.1)

-- `Arg::value_name`
pub arg_value_name : (a b : Arg) (name : Bor (List ℕ)) (rule : Rule) → IsOption rule a
    → b ≡ record a { val_names = One name } → IsOption (record rule { value_names = 1 }) b
arg_value_name a b name rule is e =
    (ap rule_of e ∙ ap (λ (r : Rule). record r { value_names = 1 }) is.0, ap (λ x. x.global) e ∙ is.1)

-- `Arg::required`
pub arg_required : (a b : Arg) (rule : Rule) → IsOption rule a → b ≡ record a { required = true }
    → IsOption (record rule { required = true }) b
arg_required a b rule is e =
    (ap rule_of e ∙ ap (λ (r : Rule). record r { required = true }) is.0, ap (λ x. x.global) e ∙ is.1)

-- `Arg::action`
pub arg_action : (a b : Arg) (rule : Rule) → IsOption rule a → b ≡ record a { action = Some SetTrue }
    → IsOption (record rule { action = Some SetTrue }) b
arg_action a b rule is e =
    (ap rule_of e ∙ ap (λ (r : Rule). record r { action = Some SetTrue }) is.0, ap (λ x. x.global) e ∙ is.1)

-- `Arg::help`
pub arg_help : (a b : Arg) (text : Bor (List ℕ)) (rule : Rule) → IsOption rule a → b ≡ record a { help = Some text }
    → IsOption rule b
arg_help a b text rule is e = (ap rule_of e ∙ is.0, ap (λ x. x.global) e ∙ is.1)

-- `Command::about`
pub command_about : (a b : Command) (text : Bor (List ℕ)) (app : App) → IsCommand app a
    → out-Command b ≡ record (out-Command a) { about = Some text } → IsCommand app b
command_about a b text app is e = (ap app_of_fields e ∙ is.0, ap (λ f. f.has_globals) e ∙ is.1)

-- `Command::after_help`
pub command_after_help : (a b : Command) (text : Bor (List ℕ)) (app : App) → IsCommand app a
    → out-Command b ≡ record (out-Command a) { after_help = Some text } → IsCommand app b
command_after_help a b text app is e = (ap app_of_fields e ∙ is.0, ap (λ f. f.has_globals) e ∙ is.1)

-- `Command::arg`
pub command_arg : (a b : Command) (option : Arg) (app : App) (rule : Rule) → IsCommand app a → IsOption rule option
    → AddsArg a option b → IsCommand (with_rule app rule) b
command_arg a b option app rule is has adds = (
  adds.shape has.1 ∙ ap (λ c. with_rule c (rule_of option)) is.0 ∙ ap (with_rule app) has.0,
  adds.globals ∙ ap (λ g. g || option.global) is.1 ∙ has.1,
)

-- the same, where memory may run out
pub one_option : (a : Command) (r : Result Command AllocError) (option : Arg) (app : App) (rule : Rule)
    → IsCommand app a → IsOption rule option → IfOk r (AddsArg a option) → IfOk r (IsCommand (with_rule app rule))
one_option a r option app rule is has adds = IfOk-weaker r _ _ (λ b. command_arg a b option app rule is has) adds

-- the same, where memory may have run out before
pub any_option : (a : Command) (o : Result Command AllocError) (option : Arg) (r : Result Command AllocError) → o ≡ Ok a
    → IfOk r (AddsArg a option) → (app : App) (rule : Rule) → IfOk o (IsCommand app) → IsOption rule option
    → IfOk r (IsCommand (with_rule app rule))
any_option a o option r was adds app rule is has =
    one_option a r option app rule (subst (λ o. IfOk o (IsCommand app)) was is) has adds

-- `Command::subcommand`
pub command_subcommand : (a b sub : Command) (app under : App) → app_of a ≡ app → IsCommand under sub
    → AddsSubcommand a sub b → app_of b ≡ with_subcommand app under.top
command_subcommand a b sub app under is command adds =
    adds.shape command.1 ∙ ap (λ c. with_subcommand c (shape_of sub)) is
    ∙ ap (λ (u : App). with_subcommand app u.top) command.0

-- the same, where memory may run out
pub one_subcommand : (a sub : Command) (r : Result Command AllocError) (app under : App) → app_of a ≡ app
    → IsCommand under sub → IfOk r (AddsSubcommand a sub) → IfOk r (λ b. app_of b ≡ with_subcommand app under.top)
one_subcommand a sub r app under is command adds =
    IfOk-weaker r _ _ (λ b. command_subcommand a b sub app under is command) adds

-- the same, where memory may have run out before
pub any_subcommand : (a sub : Command) (p o : Result Command AllocError) (r : Result Command AllocError) → p ≡ Ok a
    → o ≡ Ok sub → IfOk r (AddsSubcommand a sub) → (app under : App) → IfOk p (λ b. app_of b ≡ app)
    → IfOk o (IsCommand under) → IfOk r (λ b. app_of b ≡ with_subcommand app under.top)
any_subcommand a sub p o r has was adds app under is command =
    one_subcommand a sub r app under (subst (λ p. IfOk p (λ b. app_of b ≡ app)) has is)
    (subst (λ o. IfOk o (IsCommand under)) was command) adds
