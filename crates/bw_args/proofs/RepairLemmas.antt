-- The forms of `repair`, at values that are not known.
use Rattle.std.proofs.Common.{List, [], ◌∷◌, true, false, codes, refl}
use Rattle.clap.specs.declared.error.ErrorKind.TheVariants.{MissingRequiredArgument}
use Rattle.clap.specs.Simple.{built, built_leaf}
use Rattle.clap.specs.Words.{Text}
use Rattle.clap.proofs.OnLiterals.{clap_on_literals}
use Rattle.bw_args.specs.Commands.{command_line, repair_command}
use Rattle.bw_args.specs.ReadWords.{as_read}
use Rattle.bw_args.specs.Lines.{AsksFor, IsLineOf, Repairing}
use Rattle.bw_args.specs.Forms.{IsPlain}
use Rattle.bw_args.specs.RepairForms.{RunsRepair}
use Rattle.bw_args.specs.declared.CommandLine.{CommandLine}
use Rattle.bw_args.proofs.FormLemmas.{asked_reports, asked_runs}
use Rattle.bw_args.proofs.PlainWords.{Enters, literal, unknown, values_ask}

is_entered : Enters (built command_line) (codes "repair") (built_leaf repair_command.top)
unfolding clap_on_literals
is_entered = record { walks = refl; takes = refl; finds = refl }

repair_asks : (program path : Text) → IsPlain path
    → AsksFor (as_read (program ∷ codes "repair" ∷ path ∷ [])) (Repairing path false)
unfolding clap_on_literals
repair_asks program path is = values_ask is_entered program (unknown path ∷ []) (is, tt) refl (refl, refl, refl)

write_asks : (program path : Text) → IsPlain path
    → AsksFor (as_read (program ∷ codes "repair" ∷ path ∷ codes "--write" ∷ [])) (Repairing path true)
unfolding clap_on_literals
write_asks program path is =
    values_ask is_entered program (unknown path ∷ literal (codes "--write") ∷ []) (is, (tt, tt)) refl (refl, refl, refl)

flag_asks : (program path : Text) → IsPlain path
    → AsksFor (as_read (program ∷ codes "repair" ∷ codes "--write" ∷ path ∷ [])) (Repairing path true)
unfolding clap_on_literals
flag_asks program path is =
    values_ask is_entered program (literal (codes "--write") ∷ unknown path ∷ []) (tt, (is, tt)) refl (refl, refl, refl)

pub runs_repair : (words : List Text) (line : CommandLine) → IsLineOf words line → RunsRepair words line
unfolding clap_on_literals
runs_repair words line is = record {
  alone = λ p f plain e. asked_runs words _ line _ is e (repair_asks p f plain);
  writes = λ p f plain e. asked_runs words _ line _ is e (write_asks p f plain);
  flag_first = λ p f plain e. asked_runs words _ line _ is e (flag_asks p f plain);
  none = λ p e. asked_reports MissingRequiredArgument words _ line is e refl;
}
