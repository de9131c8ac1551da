-- The forms of `pack` and of `send` that keep what is left out, at values that are not known.
use Rattle.std.proofs.Common.{◌≡◌, List, [], ◌∷◌, ◌++◌, true, false, Option, Some, None, codes, refl, ap, subst, sym}
use Rattle.std.proofs.Common.{◌∙◌, inl, inr}
use Rattle.clap.specs.Simple.{built, built_leaf}
use Rattle.clap.specs.Words.{IsAmong, Row, Text, kind_of, subcommand_of}
use Rattle.clap.proofs.OnLiterals.{clap_on_literals}
use Rattle.bw_args.specs.Commands.{command_line, pack_command}
use Rattle.bw_args.specs.ReadWords.{as_read}
use Rattle.bw_args.specs.LeftOutOptions.{is_left_out_mixed}
use Rattle.bw_args.specs.Sources.{PlainSource}
use Rattle.bw_args.specs.FileForms.{plain_upload, source_at, with_file}
use Rattle.bw_args.specs.Lines.{AsksFor, AsksNothing, Uploading}
use Rattle.bw_args.specs.Lines.{IsFirstBad, IsLineOf, IsLineRead, Lacks, Packing, bad_unlooked}
use Rattle.bw_args.specs.Lines.{given_on_line, is_nameless, looked_at, error_kinds, wish_of}
use Rattle.bw_args.specs.Forms.{IsPlain}
use Rattle.bw_args.specs.declared.CommandLine.{CommandLine}
use Rattle.bw_args.specs.declared.CommandLine.TheVariants.{Run, BadValue as Bad, Report}
use Rattle.bw_args.specs.declared.bad_value.BadValue.{BadValue}
use Rattle.bw_args.specs.declared.bad_value.BadValue.TheVariants.{LeftOut, Mixed}
use Rattle.bw_args.proofs.Asked.{bad, ◌and_then◌}
use Rattle.bw_args.proofs.FormLemmas.{asks}
use Rattle.bw_args.proofs.LineLemmas.{no_reason}
use Rattle.bw_args.proofs.PlainWords.{Enters, fault_of_values, literal, rows_of_values, text_of, unknown, values_ask}
use Rattle.std.specs.Prelude.{map}
use Rattle.bw_args.proofs.SenderLemmas.{AsksSender, samples_by}
use Rattle.bw_args.proofs.UploadLemmas.{upload_by}
use Rattle.bw_args.proofs.ValueLemmas.{LacksSender, not_mixed, nothing}
use Rattle.bw_args.proofs.WishLemmas.{other_name}

-- the command is `pack`, with chunks to keep that may not be left out
abbrev CannotKeep : Option (Text × List Row) → Type 0
CannotKeep None = ⊥
CannotKeep (Some command) =
    (command.0 ≡ codes "pack") × (is_left_out_mixed (given_on_line command.1) ≡ true)

-- so of words that are taken
abbrev pub IsUnkept : List Text → Type 0
IsUnkept words = (error_kinds words ≡ []) × CannotKeep (subcommand_of command_line words)

-- what such a command lacks
kept_lacked : (command : Option (Text × List Row)) (value : BadValue) → CannotKeep command → Lacks command value
    → value ≡ LeftOut
kept_lacked None value none lacks = absurd none
kept_lacked (Some command) value none lacks = elim lacks [
  | inl first ↦ absurd (subst
      (λ n. IsFirstBad (looked_at n (given_on_line command.1)) (given_on_line command.1) value) none.0 first)
  | inr unlooked ↦ unlooked.1 ∙ ap bad_unlooked none.0
]

-- it asks for nothing
unkept_unasked : (command : Option (Text × List Row)) → CannotKeep command → AsksNothing command
unkept_unasked None none wish asked = none
unkept_unasked (Some command) none (Packing source) asked =
    let bad : true ≡ false = sym none.1 ∙ asked.1.kept in cc
unkept_unasked (Some command) none wish asked = other_name none.0 asked.0 refl

-- words that `clap` takes, and that keep what may not be left out, report it
unkept_read : (words : List Text) (line : CommandLine) → IsUnkept words → IsLineRead words line → line ≡ Bad LeftOut
unkept_read words (Run task) lack is =
    absurd (unkept_unasked (subcommand_of command_line words) lack.1 (wish_of task) is.asked)
unkept_read words (Bad value) lack is =
    ap Bad (kept_lacked (subcommand_of command_line words) value lack.1 is.lacks)
unkept_read words (Report error) lack is = absurd (subst (IsAmong (kind_of error)) lack.0 is.reason)

-- as they are read
pub unkept_reported : (words asking : List Text) (line : CommandLine) → IsLineOf words line → words ≡ asking
    → IsUnkept (as_read asking) → line ≡ Bad LeftOut
unkept_reported words asking line is e lack =
    unkept_read (as_read asking) line lack (subst (λ w. IsLineRead (as_read w) line) e is)

pub is_entered : Enters (built command_line) (codes "pack") (built_leaf pack_command.top)
unfolding clap_on_literals
is_entered = record { walks = refl; takes = refl; finds = refl }

pub strict_left_out : (program path left : Text) → IsPlain path
    → IsUnkept (as_read (program ∷ codes "pack" ∷ codes "--strict" ∷ (codes "--keep-left-out=" ++ left) ∷ path ∷ []))
unfolding clap_on_literals
strict_left_out program path left p =
    let words = literal (codes "--strict") ∷ literal (codes "--keep-left-out=" ++ left) ∷ unknown path ∷ [] in (
      no_reason (program ∷ codes "pack" ∷ map text_of words) (fault_of_values is_entered program words (tt, (tt, (p, tt))) ∙ refl)
          (ap is_nameless (rows_of_values is_entered program words (tt, (tt, (p, tt)))) ∙ refl),
      subst CannotKeep (sym (rows_of_values is_entered program words (tt, (tt, (p, tt))))) (refl, refl),
    )

-- the words that follow `pack` ask for this
abbrev pub AsksPack : List Text → PlainSource → Type 0
AsksPack words source = (program : Text) → AsksFor (as_read (program ∷ codes "pack" ∷ words)) (Packing source)

pub left_out_asks : (path left : Text) → IsPlain path
    → AsksPack ((codes "--keep-left-out=" ++ left) ∷ path ∷ []) (record (source_at path) { left_out = Some left })
unfolding clap_on_literals
left_out_asks path left is program = values_ask is_entered program
    (literal (codes "--keep-left-out=" ++ left) ∷ unknown path ∷ []) (tt, (is, tt)) refl
    (refl, record { from = refl; sets = refl; refuses = refl; refuses_texts = refl; keeps = refl; kept = refl })

pub left_out_texts_asks : (path left : Text) → IsPlain path
    → AsksPack (codes "--strict-texts" ∷ (codes "--keep-left-out=" ++ left) ∷ path ∷ [])
    (record (source_at path) { strict_texts = true; left_out = Some left })
unfolding clap_on_literals
left_out_texts_asks path left is program = values_ask is_entered program
    (literal (codes "--strict-texts") ∷ literal (codes "--keep-left-out=" ++ left) ∷ unknown path ∷ [])
    (tt, (tt, (is, tt))) refl
    (refl, record { from = refl; sets = refl; refuses = refl; refuses_texts = refl; keeps = refl; kept = refl })

pub left_out_sends : (path left : Text) → AsksSender false (with_file path ((codes "--keep-left-out=" ++ left) ∷ []))
    (λ a n. Uploading (record (plain_upload a n path) { source = record (source_at path) { left_out = Some left } }))
unfolding clap_on_literals
left_out_sends path left program connect name address at named =
    asks refl (
      refl,
      upload_by (None, refl, refl) (None, refl, refl) at (named, refl)
          (record { from = refl; sets = refl; refuses = refl; refuses_texts = refl; keeps = refl; kept = refl })
          refl refl refl refl refl refl
          (samples_by None None None refl refl refl refl refl),
    )

pub mixed_left_out : (left : Text) → LacksSender ((codes "--keep-left-out=" ++ left) ∷ []) Mixed
unfolding clap_on_literals
mixed_left_out left program connect name address at named = (
  refl,
  (address, at) and_then (name, (named, refl)) and_then nothing and_then nothing and_then nothing
      and_then nothing and_then bad not_mixed,
)

pub left_out_strict : (path left : Text)
    → LacksSender (with_file path (codes "--strict" ∷ (codes "--keep-left-out=" ++ left) ∷ [])) LeftOut
unfolding clap_on_literals
left_out_strict path left program connect name address at named = (
  refl,
  (address, at) and_then (name, (named, refl)) and_then nothing and_then nothing and_then nothing
      and_then nothing and_then refl and_then refl and_then bad not_mixed,
)
