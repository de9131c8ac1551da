-- The forms of `join`, in plain words, and what each results in.
use Rattle.std.specs.Prelude.{◌≡◌, List, [], ◌∷◌, codes}
use Rattle.clap.specs.Walk.{Text}
use Rattle.clap.specs.declared.error.ErrorKind.TheVariants.{MissingRequiredArgument}
use Rattle.bw_args.specs.Lines.{Joining}
use Rattle.bw_args.specs.Forms.{IsPlain, IsReportedAs, RunsFor}
use Rattle.bw_args.specs.declared.CommandLine.{CommandLine}

-- `join TAKE LEFT` runs, whatever the program's name; both are required
pub record RunsJoin (words : List Text) (line : CommandLine) : Type 0 where
  -- `join TAKE LEFT`
  pub both : (program take left : Text) → IsPlain take → IsPlain left
      → words ≡ program ∷ codes "join" ∷ take ∷ left ∷ [] → RunsFor (Joining take left) line
  -- `join TAKE`
  pub no_left : (program take : Text) → IsPlain take
      → words ≡ program ∷ codes "join" ∷ take ∷ [] → IsReportedAs MissingRequiredArgument line
  -- `join`
  pub none : (program : Text) → words ≡ program ∷ codes "join" ∷ []
      → IsReportedAs MissingRequiredArgument line
