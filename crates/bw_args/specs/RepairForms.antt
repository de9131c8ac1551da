-- The forms of `repair`, in plain words, and what each results in.
use Rattle.std.specs.Prelude.{◌≡◌, true, false, List, [], ◌∷◌, codes}
use Rattle.clap.specs.Walk.{Text}
use Rattle.clap.specs.declared.error.ErrorKind.TheVariants.{MissingRequiredArgument}
use Rattle.bw_args.specs.Lines.{Repairing}
use Rattle.bw_args.specs.Forms.{IsPlain, IsReportedAs, RunsFor}
use Rattle.bw_args.specs.declared.CommandLine.{CommandLine}

-- `repair FILE` runs, and writes with `--write` alone, whatever the program's name
pub record RunsRepair (words : List Text) (line : CommandLine) : Type 0 where
  -- `repair FILE`
  pub alone : (program path : Text) → IsPlain path
      → words ≡ program ∷ codes "repair" ∷ path ∷ [] → RunsFor (Repairing path false) line
  -- `repair FILE --write`
  pub writes : (program path : Text) → IsPlain path
      → words ≡ program ∷ codes "repair" ∷ path ∷ codes "--write" ∷ []
      → RunsFor (Repairing path true) line
  -- `repair --write FILE`
  pub flag_first : (program path : Text) → IsPlain path
      → words ≡ program ∷ codes "repair" ∷ codes "--write" ∷ path ∷ []
      → RunsFor (Repairing path true) line
  -- `repair`
  pub none : (program : Text) → words ≡ program ∷ codes "repair" ∷ []
      → IsReportedAs MissingRequiredArgument line
