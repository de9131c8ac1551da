-- The forms of `picture`, in plain words, and what each results in.
use Rattle.std.specs.Prelude.{◌≡◌, List, [], ◌∷◌, codes}
use Rattle.clap.specs.Walk.{Text}
use Rattle.clap.specs.declared.error.ErrorKind.TheVariants.{MissingRequiredArgument}
use Rattle.clap.specs.declared.error.ErrorKind.TheVariants.{UnknownArgument}
use Rattle.bw_args.specs.Lines.{Picturing}
use Rattle.bw_args.specs.Forms.{IsPlain, IsReportedAs, RunsFor}
use Rattle.bw_args.specs.declared.CommandLine.{CommandLine}

-- `picture FILE` runs, with one file alone, whatever the program's name
pub record RunsPicture (words : List Text) (line : CommandLine) : Type 0 where
  -- `picture FILE`
  pub alone : (program path : Text) → IsPlain path
      → words ≡ program ∷ codes "picture" ∷ path ∷ [] → RunsFor (Picturing path) line
  -- `picture -`, the file of this name
  pub dash : (program : Text) → words ≡ program ∷ codes "picture" ∷ codes "-" ∷ []
      → RunsFor (Picturing (codes "-")) line
  -- `picture FILE FILE`
  pub two : (program path other : Text) → IsPlain path → IsPlain other
      → words ≡ program ∷ codes "picture" ∷ path ∷ other ∷ []
      → IsReportedAs UnknownArgument line
  -- `picture`
  pub none : (program : Text) → words ≡ program ∷ codes "picture" ∷ []
      → IsReportedAs MissingRequiredArgument line
