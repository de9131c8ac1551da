-- The forms of `takes`, in plain words, and what each results in.
use Rattle.std.specs.Prelude.{◌≡◌, ◌≢◌, true, false, List, [], ◌∷◌, ◌++◌, codes}
use Rattle.clap.specs.Walk.{Text}
use Rattle.clap.specs.declared.error.ErrorKind.TheVariants.{MissingRequiredArgument}
use Rattle.bw_args.specs.Lines.{IsName, Listing, Verifying}
use Rattle.bw_args.specs.Forms.{IsReportedAs, RunsFor}
use Rattle.bw_args.specs.declared.CommandLine.{CommandLine}
use Rattle.bw_args.specs.declared.CommandLine.TheVariants.{BadValue as Bad}
use Rattle.bw_args.specs.declared.bad_value.BadValue.TheVariants.{Folder}
use Rattle.bw_args.specs.declared.bad_value.BadValue.TheVariants.{GiveUp as BadGiveUp, Verify as BadVerify}
use Rattle.bw_args.specs.declared.bad_value.BadValue.TheVariants.{Watch as BadWatch}
use Rattle.bw_args.specs.declared.folders.FolderWork.TheVariants.{Report, Watch, GiveUp}

-- `takes --folder DIR` runs, with its options, whatever the program's name; a DIR may begin with a
-- hyphen. Takes are watched without other options, and a take is given up by its name alone
pub record RunsTakes (words : List Text) (line : CommandLine) : Type 0 where
  -- `takes --folder=DIR`
  pub joined : (program folder : Text) → folder ≢ []
      → words ≡ program ∷ codes "takes" ∷ (codes "--folder=" ++ folder) ∷ []
      → RunsFor (Listing folder (Report false false false)) line
  -- `takes --folder DIR`
  pub apart : (program folder : Text) → folder ≢ []
      → words ≡ program ∷ codes "takes" ∷ codes "--folder" ∷ folder ∷ []
      → RunsFor (Listing folder (Report false false false)) line
  -- `takes --folder DIR --check --json`
  pub checked : (program folder : Text) → folder ≢ []
      → words ≡ program ∷ codes "takes" ∷ codes "--folder" ∷ folder ∷ codes "--check"
      ∷ codes "--json" ∷ []
      → RunsFor (Listing folder (Report true true false)) line
  -- `takes --folder DIR --digest`
  pub hashed : (program folder : Text) → folder ≢ []
      → words ≡ program ∷ codes "takes" ∷ codes "--folder" ∷ folder ∷ codes "--digest" ∷ []
      → RunsFor (Listing folder (Report false false true)) line
  -- `takes --folder DIR --watch`
  pub watched : (program folder : Text) → folder ≢ []
      → words ≡ program ∷ codes "takes" ∷ codes "--folder" ∷ folder ∷ codes "--watch" ∷ []
      → RunsFor (Listing folder Watch) line
  -- `takes --folder DIR --check --watch`
  pub both : (program folder : Text) → folder ≢ []
      → words ≡ program ∷ codes "takes" ∷ codes "--folder" ∷ folder ∷ codes "--check" ∷ codes
      "--watch" ∷ []
      → line ≡ Bad BadWatch
  -- `takes --folder DIR --digest --watch`
  pub hashed_watch : (program folder : Text) → folder ≢ []
      → words ≡ program ∷ codes "takes" ∷ codes "--folder" ∷ folder ∷ codes "--digest" ∷ codes
      "--watch" ∷ []
      → line ≡ Bad BadWatch
  -- `takes --folder DIR --watch --give-up=NAME`
  pub beside : (program folder name : Text) → folder ≢ []
      → words ≡ program ∷ codes "takes" ∷ codes "--folder" ∷ folder ∷ codes "--watch"
      ∷ (codes "--give-up=" ++ name) ∷ []
      → line ≡ Bad BadWatch
  -- `takes --folder DIR --give-up=NAME`
  pub given_up : (program folder name : Text) → folder ≢ [] → IsName name
      → words ≡ program ∷ codes "takes" ∷ codes "--folder" ∷ folder
      ∷ (codes "--give-up=" ++ name) ∷ []
      → RunsFor (Listing folder (GiveUp name)) line
  -- .. of something that is no name
  pub unnamed : (program folder text : Text) → folder ≢ [] → ¬ IsName text
      → words ≡ program ∷ codes "takes" ∷ codes "--folder" ∷ folder
      ∷ (codes "--give-up=" ++ text) ∷ []
      → line ≡ Bad BadGiveUp
  -- `takes --folder DIR --json --give-up=NAME`
  pub mixed : (program folder name : Text) → folder ≢ []
      → words ≡ program ∷ codes "takes" ∷ codes "--folder" ∷ folder ∷ codes "--json"
      ∷ (codes "--give-up=" ++ name) ∷ []
      → line ≡ Bad BadGiveUp
  -- `takes --folder DIR --digest --give-up=NAME`
  pub hashed_name : (program folder name : Text) → folder ≢ []
      → words ≡ program ∷ codes "takes" ∷ codes "--folder" ∷ folder ∷ codes "--digest"
      ∷ (codes "--give-up=" ++ name) ∷ []
      → line ≡ Bad BadGiveUp
  -- `takes --folder DIR --verify=RECEIPTS`
  pub verified : (program folder receipts : Text) → folder ≢ []
      → words ≡ program ∷ codes "takes" ∷ codes "--folder" ∷ folder
      ∷ (codes "--verify=" ++ receipts) ∷ []
      → RunsFor (Verifying folder receipts) line
  -- `takes --folder DIR --json --verify=RECEIPTS`
  pub verified_json : (program folder receipts : Text) → folder ≢ []
      → words ≡ program ∷ codes "takes" ∷ codes "--folder" ∷ folder ∷ codes "--json"
      ∷ (codes "--verify=" ++ receipts) ∷ []
      → line ≡ Bad BadVerify
  -- `takes --folder=`
  pub empty : (program : Text) → words ≡ program ∷ codes "takes" ∷ codes "--folder=" ∷ []
      → line ≡ Bad Folder
  -- `takes`
  pub none : (program : Text) → words ≡ program ∷ codes "takes" ∷ []
      → IsReportedAs MissingRequiredArgument line
