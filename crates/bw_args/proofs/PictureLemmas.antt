-- The forms of `picture`, at paths that are not known.
use Rattle.std.proofs.Common.{◌≡◌, ◌∙◌, List, [], ◌∷◌, codes, refl}
use Rattle.clap.specs.declared.error.ErrorKind.TheVariants.{MissingRequiredArgument, UnknownArgument}
use Rattle.clap.specs.Simple.{built, built_leaf}
use Rattle.clap.specs.Words.{Text, fault_of}
use Rattle.clap.proofs.OnLiterals.{clap_on_literals}
use Rattle.bw_args.specs.Commands.{command_line, picture_command}
use Rattle.bw_args.specs.ReadWords.{as_read}
use Rattle.bw_args.specs.Lines.{AsksFor, IsLineOf, Picturing}
use Rattle.bw_args.specs.Forms.{IsPlain}
use Rattle.bw_args.specs.PictureForms.{RunsPicture}
use Rattle.bw_args.specs.declared.CommandLine.{CommandLine}
use Rattle.bw_args.proofs.FormLemmas.{asked_reports, asked_runs, asks}
use Rattle.bw_args.proofs.LineLemmas.{fault_reason}
use Rattle.bw_args.proofs.PlainWords.{Enters, fault_of_values, unknown, values_ask}

is_entered : Enters (built command_line) (codes "picture") (built_leaf picture_command.top)
unfolding clap_on_literals
is_entered = record { walks = refl; takes = refl; finds = refl }

picture_asks : (program path : Text) → IsPlain path
    → AsksFor (as_read (program ∷ codes "picture" ∷ path ∷ [])) (Picturing path)
unfolding clap_on_literals
picture_asks program path is = values_ask is_entered program (unknown path ∷ []) (is, tt) refl (refl, refl)

dash_asks : (program : Text) → AsksFor (as_read (program ∷ codes "picture" ∷ codes "-" ∷ [])) (Picturing (codes "-"))
unfolding clap_on_literals
dash_asks program = asks refl (refl, refl)

two_fault : (program path other : Text) → IsPlain path → IsPlain other
    → fault_of command_line (as_read (program ∷ codes "picture" ∷ path ∷ other ∷ [])) ≡ UnknownArgument ∷ []
unfolding clap_on_literals
two_fault program path other p q =
    fault_of_values is_entered program (unknown path ∷ unknown other ∷ []) (p, (q, tt)) ∙ refl

pub runs_picture : (words : List Text) (line : CommandLine) → IsLineOf words line → RunsPicture words line
unfolding clap_on_literals
runs_picture words line is = record {
  alone = λ p f plain e. asked_runs words _ line _ is e (picture_asks p f plain);
  dash = λ p e. asked_runs words _ line _ is e (dash_asks p);
  two = λ p f g plain more e. asked_reports UnknownArgument words _ line is e
      (fault_reason (as_read (p ∷ codes "picture" ∷ f ∷ g ∷ [])) UnknownArgument (two_fault p f g plain more));
  none = λ p e. asked_reports MissingRequiredArgument words _ line is e refl;
}
