-- The forms of `convert`, at values that are not known.
use Rattle.std.proofs.Common.{false, ◌≡◌, List, [], ◌∷◌, Option, Some, None, codes, refl, ap, subst, sym, ◌∙◌, inl, inr}
use Rattle.std.specs.Prelude.{map}
use Rattle.clap.specs.declared.error.ErrorKind.TheVariants.{MissingRequiredArgument}
use Rattle.clap.specs.Simple.{Shape, built, built_leaf}
use Rattle.clap.specs.Words.{IsAmong, Row, Text, fault_of, kind_of, subcommand_of}
use Rattle.clap.proofs.OnLiterals.{clap_on_literals}
use Rattle.bw_args.specs.Commands.{command_line, convert_command}
use Rattle.bw_args.specs.ConvertForms.{RunsConvert}
use Rattle.bw_args.specs.ReadWords.{as_read}
use Rattle.bw_args.specs.Lines.{AsksFor, AsksNothing, Converting, IsFirstBad, IsLineOf, IsLineRead, Lacks, bad_unlooked}
use Rattle.bw_args.specs.Lines.{given_on_line, is_nameless, looked_at, error_kinds, wish_of}
use Rattle.bw_args.specs.Forms.{IsPlain}
use Rattle.bw_args.specs.AskedForms.{GivesConversion}
use Rattle.bw_args.specs.declared.CommandLine.{CommandLine}
use Rattle.bw_args.specs.declared.CommandLine.TheVariants.{Run, BadValue as Bad, Report}
use Rattle.bw_args.specs.declared.bad_value.BadValue.{BadValue}
use Rattle.bw_args.specs.declared.bad_value.BadValue.TheVariants.{Form}
use Rattle.bw_args.specs.declared.asked_form.AskedForm.{AskedForm}
use Rattle.bw_args.specs.declared.asked_form.AskedForm.TheVariants.{Rf64, Bw64}
use Rattle.bw_args.proofs.ConvertAsked.{no_form, nothing_converted}
use Rattle.bw_args.proofs.FormLemmas.{asked_reports, asked_runs}
use Rattle.bw_args.proofs.LineLemmas.{fault_reason, no_reason}
use Rattle.bw_args.proofs.PlainWords.{AreValues, Enters, Word, fault_of_values, level_by, literal, unknown, rows_by}
use Rattle.bw_args.proofs.PlainWords.{rows_of_values, text_of, values_ask}

is_entered : Enters (built command_line) (codes "convert") (built_leaf convert_command.top)
unfolding clap_on_literals
is_entered = record { walks = refl; takes = refl; finds = refl }

rf64_asks : (program path to : Text) → IsPlain path → IsPlain to
    → AsksFor (as_read (program ∷ codes "convert" ∷ codes "--rf64" ∷ path ∷ to ∷ [])) (Converting path to Rf64)
unfolding clap_on_literals
rf64_asks program path to p q = values_ask is_entered program
    (literal (codes "--rf64") ∷ unknown path ∷ unknown to ∷ []) (tt, (p, (q, tt))) refl
    (refl, record { reads = refl; makes = refl; formed = refl })

bw64_asks : (program path to : Text) → IsPlain path → IsPlain to
    → AsksFor (as_read (program ∷ codes "convert" ∷ codes "--bw64" ∷ path ∷ to ∷ [])) (Converting path to Bw64)
unfolding clap_on_literals
bw64_asks program path to p q = values_ask is_entered program
    (literal (codes "--bw64") ∷ unknown path ∷ unknown to ∷ []) (tt, (p, (q, tt))) refl
    (refl, record { reads = refl; makes = refl; formed = refl })

rf64_last_asks : (program path to : Text) → IsPlain path → IsPlain to
    → AsksFor (as_read (program ∷ codes "convert" ∷ path ∷ to ∷ codes "--rf64" ∷ [])) (Converting path to Rf64)
unfolding clap_on_literals
rf64_last_asks program path to p q = values_ask is_entered program
    (unknown path ∷ unknown to ∷ literal (codes "--rf64") ∷ []) (p, (q, (tt, tt))) refl
    (refl, record { reads = refl; makes = refl; formed = refl })

bw64_last_asks : (program path to : Text) → IsPlain path → IsPlain to
    → AsksFor (as_read (program ∷ codes "convert" ∷ path ∷ to ∷ codes "--bw64" ∷ [])) (Converting path to Bw64)
unfolding clap_on_literals
bw64_last_asks program path to p q = values_ask is_entered program
    (unknown path ∷ unknown to ∷ literal (codes "--bw64") ∷ []) (p, (q, (tt, tt))) refl
    (refl, record { reads = refl; makes = refl; formed = refl })

-- the command is `convert`, with options that give no conversion
abbrev CannotConvert : Option (Text × List Row) → Type 0
CannotConvert None = ⊥
CannotConvert (Some command) =
    (command.0 ≡ codes "convert")
    × ((path to : Text) (form : AskedForm) → ¬ GivesConversion (given_on_line command.1) path to form)

-- so of words that are taken
abbrev IsFormless : List Text → Type 0
IsFormless words = (error_kinds words ≡ []) × CannotConvert (subcommand_of command_line words)

-- so of a command's name and values
values_lack : {name : Text} {s : Shape} → Enters (built command_line) name s → (program : Text) (words : List Word)
    → AreValues words → level_by s words ≡ [] → is_nameless (Some (s.name, rows_by s words)) ≡ false
    → CannotConvert (Some (s.name, rows_by s words)) → IsFormless (program ∷ name ∷ map text_of words)
values_lack {name} is program words are taken other none = (
  no_reason (program ∷ name ∷ map text_of words) (fault_of_values is program words are ∙ taken)
      (ap is_nameless (rows_of_values is program words are) ∙ other),
  subst CannotConvert (sym (rows_of_values is program words are)) none,
)

no_flag : (program path to : Text) → IsPlain path → IsPlain to
    → IsFormless (program ∷ codes "convert" ∷ path ∷ to ∷ [])
unfolding clap_on_literals
no_flag program path to p q = values_lack is_entered program
    (unknown path ∷ unknown to ∷ []) (p, (q, tt)) refl refl
    (refl, no_form _ refl)

both_flags : (program path to : Text) → IsPlain path → IsPlain to
    → IsFormless (program ∷ codes "convert" ∷ codes "--rf64" ∷ codes "--bw64" ∷ path ∷ to ∷ [])
unfolding clap_on_literals
both_flags program path to p q = values_lack is_entered program
    (literal (codes "--rf64") ∷ literal (codes "--bw64") ∷ unknown path ∷ unknown to ∷ []) (tt, (tt, (p, (q, tt)))) refl refl
    (refl, no_form _ refl)

-- what such a command lacks
form_lacked : (command : Option (Text × List Row)) (value : BadValue) → CannotConvert command → Lacks command value
    → value ≡ Form
form_lacked None value none lacks = absurd none
form_lacked (Some command) value none lacks = elim lacks [
  | inl first ↦ absurd (subst
      (λ n. IsFirstBad (looked_at n (given_on_line command.1)) (given_on_line command.1) value) none.0 first)
  | inr unlooked ↦ unlooked.1 ∙ ap bad_unlooked none.0
]

-- it asks for nothing
formless_unasked : (command : Option (Text × List Row)) → CannotConvert command → AsksNothing command
formless_unasked None none wish asked = none
formless_unasked (Some command) none wish asked = nothing_converted command none.0 none.1 wish asked

-- words that `clap` takes, and that give no form, report it
formless_read : (words : List Text) (line : CommandLine) → IsFormless words → IsLineRead words line → line ≡ Bad Form
formless_read words (Run task) lack is =
    absurd (formless_unasked (subcommand_of command_line words) lack.1 (wish_of task) is.asked)
formless_read words (Bad value) lack is =
    ap Bad (form_lacked (subcommand_of command_line words) value lack.1 is.lacks)
formless_read words (Report error) lack is = absurd (subst (IsAmong (kind_of error)) lack.0 is.reason)

-- as they are read
formless_reported : (words asking : List Text) (line : CommandLine) → IsLineOf words line → words ≡ asking
    → IsFormless (as_read asking) → line ≡ Bad Form
formless_reported words asking line is e lack =
    formless_read (as_read asking) line lack (subst (λ w. IsLineRead (as_read w) line) e is)

-- without OUT nothing runs
lacks_out : (program path : Text) → IsPlain path
    → fault_of command_line (as_read (program ∷ codes "convert" ∷ codes "--rf64" ∷ path ∷ []))
    ≡ MissingRequiredArgument ∷ []
unfolding clap_on_literals
lacks_out program path p =
    fault_of_values is_entered program (literal (codes "--rf64") ∷ unknown path ∷ []) (tt, (p, tt)) ∙ refl

pub runs_convert : (words : List Text) (line : CommandLine) → IsLineOf words line → RunsConvert words line
unfolding clap_on_literals
runs_convert words line is = record {
  rf64 = λ n f t p q e. asked_runs words _ line _ is e (rf64_asks n f t p q);
  bw64 = λ n f t p q e. asked_runs words _ line _ is e (bw64_asks n f t p q);
  rf64_last = λ n f t p q e. asked_runs words _ line _ is e (rf64_last_asks n f t p q);
  bw64_last = λ n f t p q e. asked_runs words _ line _ is e (bw64_last_asks n f t p q);
  no_form = λ n f t p q e. formless_reported words _ line is e (no_flag n f t p q);
  both_forms = λ n f t p q e. formless_reported words _ line is e (both_flags n f t p q);
  no_out = λ n f p e. asked_reports MissingRequiredArgument words _ line is e
      (fault_reason (as_read (n ∷ codes "convert" ∷ codes "--rf64" ∷ f ∷ [])) MissingRequiredArgument (lacks_out n f p));
  none = λ n e. asked_reports MissingRequiredArgument words _ line is e refl;
}
