-- What the getters of `clap` say of two files to join, and the forms of `join`, at values that are not known.
use Rattle.std.proofs.Common.{◌≡◌, List, [], ◌∷◌, Some, None, codes, refl, sym, ◌∙◌, inr}
use Rattle.clap.specs.declared.error.ErrorKind.TheVariants.{MissingRequiredArgument}
use Rattle.clap.specs.declared.parser.matches.Found.{Found}
use Rattle.clap.specs.Simple.{built, built_leaf}
use Rattle.clap.specs.Words.{Text, fault_of, first_value, rows_of}
use Rattle.clap.proofs.OnLiterals.{clap_on_literals}
use Rattle.clap.proofs.WalkLemmas.{first_value-rows}
use Rattle.bw_args.specs.Commands.{command_line, join_command}
use Rattle.bw_args.specs.JoinForms.{RunsJoin}
use Rattle.bw_args.specs.ReadWords.{as_read}
use Rattle.bw_args.specs.Lines.{AsksFor, AsksNothing, IsLineFor, IsLineOf, IsWishOf, Joining}
use Rattle.bw_args.specs.Forms.{IsPlain}
use Rattle.bw_args.specs.declared.CommandLine.{CommandLine}
use Rattle.bw_args.specs.declared.CommandLine.TheVariants.{BadValue as Bad}
use Rattle.bw_args.specs.declared.bad_value.BadValue.TheVariants.{Limit}
use Rattle.bw_args.proofs.Asked.{no_path}
use Rattle.bw_args.proofs.FormLemmas.{asked_reports, asked_runs}
use Rattle.bw_args.proofs.LineLemmas.{fault_reason}
use Rattle.bw_args.proofs.PlainWords.{Enters, fault_of_values, unknown, values_ask}
use Rattle.bw_args.proofs.WishLemmas.{other_name}

-- the files that are given are those that are asked for
pub join_asked : (found : Found) (take left : Text) → Some take ≡ first_value found (codes "take")
    → Some left ≡ first_value found (codes "left")
    → IsWishOf (Some (codes "join", rows_of found)) (Joining take left)
join_asked found take left reads joins = (
  refl,
  sym (reads ∙ first_value-rows found (codes "take")),
  sym (joins ∙ first_value-rows found (codes "left")),
)

-- without one of them, nothing is asked for, and no value is looked at
pub no_take_line : (found : Found) → None ≡ first_value found (codes "take")
    → IsLineFor (Some (codes "join", rows_of found)) (Bad Limit)
no_take_line found given = (nothing, inr (refl, refl))
  where
    nothing : AsksNothing (Some (codes "join", rows_of found))
    nothing (Joining take left) asked = no_path take (given ∙ first_value-rows found (codes "take") ∙ asked.1)
    nothing wish asked = other_name (refl {a = codes "join"}) asked.0 refl

pub no_left_line : (found : Found) → None ≡ first_value found (codes "left")
    → IsLineFor (Some (codes "join", rows_of found)) (Bad Limit)
no_left_line found given = (nothing, inr (refl, refl))
  where
    nothing : AsksNothing (Some (codes "join", rows_of found))
    nothing (Joining take left) asked = no_path left (given ∙ first_value-rows found (codes "left") ∙ asked.2)
    nothing wish asked = other_name (refl {a = codes "join"}) asked.0 refl

is_entered : Enters (built command_line) (codes "join") (built_leaf join_command.top)
unfolding clap_on_literals
is_entered = record { walks = refl; takes = refl; finds = refl }

both_asks : (program take left : Text) → IsPlain take → IsPlain left
    → AsksFor (as_read (program ∷ codes "join" ∷ take ∷ left ∷ [])) (Joining take left)
unfolding clap_on_literals
both_asks program take left p q =
    values_ask is_entered program (unknown take ∷ unknown left ∷ []) (p, (q, tt)) refl (refl, refl, refl)

-- without LEFT nothing runs
lacks_left : (program take : Text) → IsPlain take
    → fault_of command_line (as_read (program ∷ codes "join" ∷ take ∷ [])) ≡ MissingRequiredArgument ∷ []
unfolding clap_on_literals
lacks_left program take p = fault_of_values is_entered program (unknown take ∷ []) (p, tt) ∙ refl

pub runs_join : (words : List Text) (line : CommandLine) → IsLineOf words line → RunsJoin words line
unfolding clap_on_literals
runs_join words line is = record {
  both = λ n t f p q e. asked_runs words _ line _ is e (both_asks n t f p q);
  no_left = λ n t p e. asked_reports MissingRequiredArgument words _ line is e
      (fault_reason (as_read (n ∷ codes "join" ∷ t ∷ [])) MissingRequiredArgument (lacks_left n t p));
  none = λ n e. asked_reports MissingRequiredArgument words _ line is e refl;
}
