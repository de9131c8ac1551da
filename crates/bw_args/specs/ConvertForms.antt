-- The forms of `convert`, in plain words, and what each results in.
use Rattle.std.specs.Prelude.{◌≡◌, List, [], ◌∷◌, codes}
use Rattle.clap.specs.Walk.{Text}
use Rattle.clap.specs.declared.error.ErrorKind.TheVariants.{MissingRequiredArgument}
use Rattle.bw_args.specs.Lines.{Converting}
use Rattle.bw_args.specs.Forms.{IsPlain, IsReportedAs, RunsFor}
use Rattle.bw_args.specs.declared.CommandLine.{CommandLine}
use Rattle.bw_args.specs.declared.CommandLine.TheVariants.{BadValue as Bad}
use Rattle.bw_args.specs.declared.bad_value.BadValue.TheVariants.{Form}
use Rattle.bw_args.specs.declared.asked_form.AskedForm.TheVariants.{Rf64, Bw64}

-- `convert FILE OUT` runs with one of its two flags, whatever the program's name
pub record RunsConvert (words : List Text) (line : CommandLine) : Type 0 where
  -- `convert --rf64 FILE OUT`
  pub rf64 : (program path to : Text) → IsPlain path → IsPlain to
      → words ≡ program ∷ codes "convert" ∷ codes "--rf64" ∷ path ∷ to ∷ []
      → RunsFor (Converting path to Rf64) line
  -- `convert --bw64 FILE OUT`
  pub bw64 : (program path to : Text) → IsPlain path → IsPlain to
      → words ≡ program ∷ codes "convert" ∷ codes "--bw64" ∷ path ∷ to ∷ []
      → RunsFor (Converting path to Bw64) line
  -- `convert FILE OUT --rf64`
  pub rf64_last : (program path to : Text) → IsPlain path → IsPlain to
      → words ≡ program ∷ codes "convert" ∷ path ∷ to ∷ codes "--rf64" ∷ []
      → RunsFor (Converting path to Rf64) line
  -- `convert FILE OUT --bw64`
  pub bw64_last : (program path to : Text) → IsPlain path → IsPlain to
      → words ≡ program ∷ codes "convert" ∷ path ∷ to ∷ codes "--bw64" ∷ []
      → RunsFor (Converting path to Bw64) line
  -- `convert FILE OUT`
  pub no_form : (program path to : Text) → IsPlain path → IsPlain to
      → words ≡ program ∷ codes "convert" ∷ path ∷ to ∷ [] → line ≡ Bad Form
  -- `convert --rf64 --bw64 FILE OUT`
  pub both_forms : (program path to : Text) → IsPlain path → IsPlain to
      → words ≡ program ∷ codes "convert" ∷ codes "--rf64" ∷ codes "--bw64" ∷ path ∷ to ∷ []
      → line ≡ Bad Form
  -- `convert --rf64 FILE`
  pub no_out : (program path : Text) → IsPlain path
      → words ≡ program ∷ codes "convert" ∷ codes "--rf64" ∷ path ∷ []
      → IsReportedAs MissingRequiredArgument line
  -- `convert`
  pub none : (program : Text) → words ≡ program ∷ codes "convert" ∷ []
      → IsReportedAs MissingRequiredArgument line
