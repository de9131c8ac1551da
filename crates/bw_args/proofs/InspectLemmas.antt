-- The forms of `inspect`, at paths that are not known.
use Rattle.std.proofs.Common.{◌≡◌, List, [], ◌∷◌, Bool, true, false, codes, refl, ap, subst, sym, ◌∙◌, Option, Some, None}
use Rattle.std.proofs.Common.{inl, inr}
use Rattle.std.specs.Prelude.{map, slice_index}
use Rattle.std.proofs.lemmas.Slice.Eq.{bytes_eq-Decides}
use Rattle.clap.specs.declared.error.ErrorKind.TheVariants.{MissingRequiredArgument}
use Rattle.clap.specs.Simple.{Shape, built, built_leaf}
use Rattle.clap.specs.Words.{IsAmong, Row, Text, kind_of, subcommand_of}
use Rattle.clap.specs.Walk.{all_of}
use Rattle.clap.proofs.OnLiterals.{clap_on_literals}
use Rattle.bw_args.specs.Commands.{command_line, inspect_command}
use Rattle.bw_args.specs.ReadWords.{as_read}
use Rattle.bw_args.specs.Lines.{AsksFor, IsFirstBad, IsLineOf, IsLineRead, Lacks, bad_unlooked, given_on_line, is_set}
use Rattle.bw_args.specs.Lines.{AsksNothing, Inspecting, InspectingFiles, is_nameless, looked_at, error_kinds, wish_of}
use Rattle.bw_args.specs.Forms.{Inspects, IsPlain, RunsFor, RunsInspect, inspection_of}
use Rattle.bw_args.specs.InspectedFiles.{GivesInspection, PlainInspection, is_input, is_possible}
use Rattle.bw_args.specs.declared.CommandLine.{CommandLine}
use Rattle.bw_args.specs.declared.CommandLine.TheVariants.{Run, BadValue as Bad, Report}
use Rattle.bw_args.specs.declared.Task.TheVariants.{Inspect}
use Rattle.bw_args.specs.declared.bad_value.BadValue.{BadValue}
use Rattle.bw_args.specs.declared.bad_value.BadValue.TheVariants.{Inspection}
use Rattle.bw_args.proofs.Asked.{clashing, nothing_inspected}
use Rattle.bw_args.proofs.FormLemmas.{asked_reports, asked_runs, asks}
use Rattle.bw_args.proofs.LineLemmas.{no_reason}
use Rattle.bw_args.proofs.PlainWords.{AreValues, Enters, Word, fault_of_values, level_by, literal, unknown, rows_by}
use Rattle.bw_args.proofs.PlainWords.{rows_of_values, text_of, values_ask}

-- a word that is no option isn't standard input
plain_input : (path : Text) → IsPlain path → is_input path ≡ false
plain_input [] plain = refl
plain_input (d ∷ ds) plain = go (is_input (d ∷ ds)) refl
  where
    go : (b : Bool) → is_input (d ∷ ds) ≡ b → b ≡ false
    go false e = refl
    go true e =
        let same : d ∷ ds ≡ codes "-" = (bytes_eq-Decides (d ∷ ds) (codes "-")).0 e in
        absurd (plain (ap (λ (t : Text). slice_index t 0) same))

-- two files can be inspected, in JSON or not
possible_two : (path other : Text) → IsPlain path → IsPlain other → (json : Bool)
    → is_possible (path ∷ other ∷ []) json false false ≡ true
possible_two path other p q true = rw (plain_input path p, plain_input other q) refl
possible_two path other p q false = rw (plain_input path p, plain_input other q) refl

-- and one with its digest
possible_digest : (path : Text) → IsPlain path → is_possible (path ∷ []) false false true ≡ true
possible_digest path plain = rw (plain_input path plain) refl

-- the options give these files, and this way
gives : {options : List Row} {i : PlainInspection} → all_of (codes "file") options ≡ Some i.files
    → i.json ≡ is_set (given_on_line options (codes "json")) → i.human ≡ is_set (given_on_line options (codes "human"))
    → i.digest ≡ is_set (given_on_line options (codes "digest"))
    → is_possible i.files i.json i.human i.digest ≡ true → GivesInspection options i
gives from prints explains digests possible =
    record { from = from; prints = prints; explains = explains; digests = digests; possible = possible }

is_entered : Enters (built command_line) (codes "inspect") (built_leaf inspect_command.top)
unfolding clap_on_literals
is_entered = record { walks = refl; takes = refl; finds = refl }

file_asks : (program path : Text) → IsPlain path → AsksFor (program ∷ codes "inspect" ∷ path ∷ []) (Inspecting path)
unfolding clap_on_literals
file_asks program path p = values_ask is_entered program
    (unknown path ∷ []) (p, tt) refl
    (refl, gives refl refl refl refl refl)

json_asks : (program path : Text) → IsPlain path
    → AsksFor (program ∷ codes "inspect" ∷ codes "--json" ∷ path ∷ [])
    (InspectingFiles (record (inspection_of (path ∷ [])) { json = true }))
unfolding clap_on_literals
json_asks program path p = values_ask is_entered program
    (literal (codes "--json") ∷ unknown path ∷ []) (tt, (p, tt)) refl
    (refl, gives refl refl refl refl refl, refl)

two_ask : (program path other : Text) → IsPlain path → IsPlain other
    → AsksFor (program ∷ codes "inspect" ∷ path ∷ other ∷ []) (InspectingFiles (inspection_of (path ∷ other ∷ [])))
unfolding clap_on_literals
two_ask program path other p q = values_ask is_entered program
    (unknown path ∷ unknown other ∷ []) (p, (q, tt)) refl
    (refl, gives refl refl refl refl (possible_two path other p q false), refl)

json_last_asks : (program path other : Text) → IsPlain path → IsPlain other
    → AsksFor (program ∷ codes "inspect" ∷ path ∷ other ∷ codes "--json" ∷ [])
    (InspectingFiles (record (inspection_of (path ∷ other ∷ [])) { json = true }))
unfolding clap_on_literals
json_last_asks program path other p q = values_ask is_entered program
    (unknown path ∷ unknown other ∷ literal (codes "--json") ∷ []) (p, (q, (tt, tt))) refl
    (refl, gives refl refl refl refl (possible_two path other p q true), refl)

human_asks : (program path : Text) → IsPlain path
    → AsksFor (program ∷ codes "inspect" ∷ codes "--human" ∷ path ∷ [])
    (InspectingFiles (record (inspection_of (path ∷ [])) { human = true }))
unfolding clap_on_literals
human_asks program path p = values_ask is_entered program
    (literal (codes "--human") ∷ unknown path ∷ []) (tt, (p, tt)) refl
    (refl, gives refl refl refl refl refl, refl)

digest_asks : (program path : Text) → IsPlain path
    → AsksFor (program ∷ codes "inspect" ∷ codes "--digest" ∷ path ∷ [])
    (InspectingFiles (record (inspection_of (path ∷ [])) { digest = true }))
unfolding clap_on_literals
digest_asks program path p = values_ask is_entered program
    (literal (codes "--digest") ∷ unknown path ∷ []) (tt, (p, tt)) refl
    (refl, gives refl refl refl refl (possible_digest path p), refl)

input_asks : (program : Text) → AsksFor (program ∷ codes "inspect" ∷ codes "-" ∷ []) (Inspecting (codes "-"))
unfolding clap_on_literals
input_asks program = asks refl (refl, gives refl refl refl refl refl)

-- the command is `inspect`, with options by which nothing can be inspected
abbrev CannotInspect : Option (Text × List Row) → Type 0
CannotInspect None = ⊥
CannotInspect (Some command) =
    (command.0 ≡ codes "inspect") × ((i : PlainInspection) → ¬ GivesInspection command.1 i)

-- so of words that are taken
abbrev IsClash : List Text → Type 0
IsClash words = (error_kinds words ≡ []) × CannotInspect (subcommand_of command_line words)

-- so of a command's name and values
values_clash : {name : Text} {s : Shape} → Enters (built command_line) name s → (program : Text) (words : List Word)
    → AreValues words → level_by s words ≡ [] → is_nameless (Some (s.name, rows_by s words)) ≡ false
    → CannotInspect (Some (s.name, rows_by s words)) → IsClash (program ∷ name ∷ map text_of words)
values_clash {name} is program words are taken other none = (
  no_reason (program ∷ name ∷ map text_of words) (fault_of_values is program words are ∙ taken)
      (ap is_nameless (rows_of_values is program words are) ∙ other),
  subst CannotInspect (sym (rows_of_values is program words are)) none,
)

both_clash : (program path : Text) → IsPlain path
    → IsClash (program ∷ codes "inspect" ∷ codes "--json" ∷ codes "--human" ∷ path ∷ [])
unfolding clap_on_literals
both_clash program path p = values_clash is_entered program
    (literal (codes "--json") ∷ literal (codes "--human") ∷ unknown path ∷ []) (tt, (tt, (p, tt))) refl refl
    (refl, clashing _ (path ∷ []) true true false refl refl refl refl refl)

twice_clash : (program : Text) → IsClash (program ∷ codes "inspect" ∷ codes "--digest" ∷ codes "-" ∷ [])
unfolding clap_on_literals
twice_clash program = (refl, (refl, clashing _ (codes "-" ∷ []) false false true refl refl refl refl refl))

beside_clash : (program path : Text) → IsPlain path → IsClash (program ∷ codes "inspect" ∷ codes "-" ∷ path ∷ [])
unfolding clap_on_literals
beside_clash program path p = values_clash is_entered program
    (literal (codes "-") ∷ unknown path ∷ []) (tt, (p, tt)) refl refl
    (refl, clashing _ (codes "-" ∷ path ∷ []) false false false refl refl refl refl refl)

-- what such a command lacks
clash_lacked : (command : Option (Text × List Row)) (value : BadValue) → CannotInspect command → Lacks command value
    → value ≡ Inspection
clash_lacked None value none lacks = absurd none
clash_lacked (Some command) value none lacks = elim lacks [
  | inl first ↦ absurd (subst
      (λ n. IsFirstBad (looked_at n (given_on_line command.1)) (given_on_line command.1) value) none.0 first)
  | inr unlooked ↦ unlooked.1 ∙ ap bad_unlooked none.0
]

-- it asks for nothing
clash_unasked : (command : Option (Text × List Row)) → CannotInspect command → AsksNothing command
clash_unasked None none wish asked = none
clash_unasked (Some command) none wish asked = nothing_inspected command none.0 none.1 wish asked

-- words that `clap` takes, and by which nothing can be inspected, report it
clash_read : (words : List Text) (line : CommandLine) → IsClash words → IsLineRead words line → line ≡ Bad Inspection
clash_read words (Run task) clash is =
    absurd (clash_unasked (subcommand_of command_line words) clash.1 (wish_of task) is.asked)
clash_read words (Bad value) clash is =
    ap Bad (clash_lacked (subcommand_of command_line words) value clash.1 is.lacks)
clash_read words (Report error) clash is = absurd (subst (IsAmong (kind_of error)) clash.0 is.reason)

-- as they are read
clash_reported : (words asking : List Text) (line : CommandLine) → IsLineOf words line → words ≡ asking
    → IsClash (as_read asking) → line ≡ Bad Inspection
clash_reported words asking line is e clash =
    clash_read (as_read asking) line clash (subst (λ w. IsLineRead (as_read w) line) e is)

inspects : (path : Text) (line : CommandLine) → RunsFor (Inspecting path) line → Inspects path line
inspects path (Run (Inspect file)) e = cc
inspects path (Run task) e = cc
inspects path (Bad value) e = absurd e
inspects path (Report error) e = absurd e

pub runs_inspect : (words : List Text) (line : CommandLine) → IsLineOf words line → RunsInspect words line
unfolding clap_on_literals
runs_inspect words line is = record {
  file = λ program path plain e.
      inspects path line (asked_runs words _ line _ is e (file_asks program path plain));
  none = λ program e. asked_reports MissingRequiredArgument words _ line is e refl;
  two = λ program path other p q e. asked_runs words _ line _ is e (two_ask program path other p q);
  json = λ program path p e. asked_runs words _ line _ is e (json_asks program path p);
  json_last = λ program path other p q e. asked_runs words _ line _ is e (json_last_asks program path other p q);
  human = λ program path p e. asked_runs words _ line _ is e (human_asks program path p);
  digest = λ program path p e. asked_runs words _ line _ is e (digest_asks program path p);
  input = λ program e. inspects (codes "-") line (asked_runs words _ line _ is e (input_asks program));
  both = λ program path p e. clash_reported words _ line is e (both_clash program path p);
  input_twice = λ program e. clash_reported words _ line is e (twice_clash program);
  input_beside = λ program path p e. clash_reported words _ line is e (beside_clash program path p);
}
