-- The forms of the commands, in plain words, and what each results in.
use Rattle.std.specs.Prelude.{◌≡◌, ◌≢◌, ⊤, true, false, List, [], ◌∷◌, ◌++◌, Some, None, codes}
use Rattle.std.specs.Prelude.{string_bytes}
use Rattle.clap.specs.Walk.{Text}
use Rattle.clap.specs.Values.{kind_of}
use Rattle.clap.specs.declared.error.ErrorKind.{ErrorKind}
use Rattle.clap.specs.declared.error.ErrorKind.TheVariants.{DisplayHelp, DisplayVersion}
use Rattle.clap.specs.declared.error.ErrorKind.TheVariants.{MissingRequiredArgument}
use Rattle.clap.specs.declared.error.ErrorKind.TheVariants.{MissingSubcommand}
use Rattle.bw_args.specs.InspectedFiles.{PlainInspection}
use Rattle.bw_args.specs.Numbers.{IsLimitText, IsNumber, default_limit, number_written}
use Rattle.bw_args.specs.Lines.{InspectingFiles, IsName, Wish, wish_of}
use Rattle.bw_args.specs.declared.CommandLine.{CommandLine}
use Rattle.bw_args.specs.declared.CommandLine.TheVariants.{Run, BadValue as Bad, Report}
use Rattle.bw_args.specs.declared.bad_value.BadValue.TheVariants.{Name, Limit, Fuse, Inspection}
use Rattle.bw_args.specs.declared.Task.TheVariants.{Replay, Rehearse, Inspect}

-- the line runs a task for this
abbrev pub RunsFor : Wish → CommandLine → Type 0
RunsFor wish (Run task) = wish_of task ≡ wish
RunsFor wish (Bad value) = ⊥
RunsFor wish (Report error) = ⊥

-- `replay` runs, with a limit N and a fuse K or without, whatever the program's name, N and K
pub record RunsReplay (words : List Text) (line : CommandLine) : Type 0 where
  -- `replay`
  pub plain : (program : Text) → words ≡ program ∷ codes "replay" ∷ []
      → line ≡ Run (Replay default_limit None)
  -- `replay --limit N`
  pub apart : (program text : Text) → IsLimitText text
      → words ≡ program ∷ codes "replay" ∷ codes "--limit" ∷ text ∷ []
      → line ≡ Run (Replay (number_written text) None)
  -- `replay --limit=N`
  pub joined : (program text : Text) → IsLimitText text
      → words ≡ program ∷ codes "replay" ∷ (codes "--limit=" ++ text) ∷ []
      → line ≡ Run (Replay (number_written text) None)
  -- `replay --fuse K`
  pub fuse_apart : (program text : Text) → IsNumber text
      → words ≡ program ∷ codes "replay" ∷ codes "--fuse" ∷ text ∷ []
      → line ≡ Run (Replay default_limit (Some (number_written text)))
  -- `replay --fuse=K`
  pub fuse_joined : (program text : Text) → IsNumber text
      → words ≡ program ∷ codes "replay" ∷ (codes "--fuse=" ++ text) ∷ []
      → line ≡ Run (Replay default_limit (Some (number_written text)))
  -- `replay --limit N --fuse K`
  pub both : (program limit fuse : Text) → IsLimitText limit → IsNumber fuse
      → words ≡ program ∷ codes "replay" ∷ codes "--limit" ∷ limit
      ∷ codes "--fuse" ∷ fuse ∷ []
      → line ≡ Run (Replay (number_written limit) (Some (number_written fuse)))
  -- `replay --fuse K --limit N`
  pub turned : (program limit fuse : Text) → IsLimitText limit → IsNumber fuse
      → words ≡ program ∷ codes "replay" ∷ codes "--fuse" ∷ fuse
      ∷ codes "--limit" ∷ limit ∷ []
      → line ≡ Run (Replay (number_written limit) (Some (number_written fuse)))

-- the line reports an error of this kind
abbrev pub IsReportedAs : ErrorKind → CommandLine → Type 0
IsReportedAs kind (Run task) = ⊥
IsReportedAs kind (Bad value) = ⊥
IsReportedAs kind (Report error) = kind_of error ≡ kind

-- `rehearse` runs, with a limit N or without, whatever the program's name, NAME and N; a NAME may
-- begin with a hyphen
pub record RunsRehearsal (words : List Text) (line : CommandLine) : Type 0 where
  -- `rehearse --name NAME`
  pub apart : (program name : Text) → IsName name
      → words ≡ program ∷ codes "rehearse" ∷ codes "--name" ∷ name ∷ []
      → line ≡ Run (Rehearse name default_limit)
  -- `rehearse --name=NAME`
  pub joined : (program name : Text) → IsName name
      → words ≡ program ∷ codes "rehearse" ∷ (codes "--name=" ++ name) ∷ []
      → line ≡ Run (Rehearse name default_limit)
  -- `rehearse --name NAME --limit N`
  pub both : (program name limit : Text) → IsName name → IsLimitText limit
      → words ≡ program ∷ codes "rehearse" ∷ codes "--name" ∷ name
      ∷ codes "--limit" ∷ limit ∷ []
      → line ≡ Run (Rehearse name (number_written limit))
  -- `rehearse --limit N --name NAME`
  pub turned : (program name limit : Text) → IsName name → IsLimitText limit
      → words ≡ program ∷ codes "rehearse" ∷ codes "--limit" ∷ limit
      ∷ codes "--name" ∷ name ∷ []
      → line ≡ Run (Rehearse name (number_written limit))
  -- `rehearse --name=NAME --limit=N`
  pub both_joined : (program name limit : Text) → IsName name → IsLimitText limit
      → words ≡ program ∷ codes "rehearse" ∷ (codes "--name=" ++ name)
      ∷ (codes "--limit=" ++ limit) ∷ []
      → line ≡ Run (Rehearse name (number_written limit))
  -- `rehearse`
  pub none : (program : Text) → words ≡ program ∷ codes "rehearse" ∷ []
      → IsReportedAs MissingRequiredArgument line
  -- `rehearse --limit=N`
  pub limit_alone : (program limit : Text)
      → words ≡ program ∷ codes "rehearse" ∷ (codes "--limit=" ++ limit) ∷ []
      → IsReportedAs MissingRequiredArgument line

-- a value of another form is a fault of its own, whatever the program's name, NAME, N and K; that
-- of the name is reported first, then that of the limit
pub record RefusesValues (words : List Text) (line : CommandLine) : Type 0 where
  -- `replay --limit=N`
  pub limit : (program text : Text) → ¬ IsLimitText text
      → words ≡ program ∷ codes "replay" ∷ (codes "--limit=" ++ text) ∷ []
      → line ≡ Bad Limit
  -- `replay --fuse=K`
  pub fuse : (program text : Text) → ¬ IsNumber text
      → words ≡ program ∷ codes "replay" ∷ (codes "--fuse=" ++ text) ∷ []
      → line ≡ Bad Fuse
  -- `replay --fuse=K --limit=N`
  pub first : (program limit fuse : Text) → ¬ IsLimitText limit
      → words ≡ program ∷ codes "replay" ∷ (codes "--fuse=" ++ fuse)
      ∷ (codes "--limit=" ++ limit) ∷ [] → line ≡ Bad Limit
  -- `rehearse --name=NAME`
  pub name : (program text : Text) → ¬ IsName text
      → words ≡ program ∷ codes "rehearse" ∷ (codes "--name=" ++ text) ∷ []
      → line ≡ Bad Name
  -- `rehearse --limit=N --name=NAME`
  pub name_first : (program name limit : Text) → ¬ IsName name
      → words ≡ program ∷ codes "rehearse" ∷ (codes "--limit=" ++ limit)
      ∷ (codes "--name=" ++ name) ∷ [] → line ≡ Bad Name
  -- `rehearse --name=NAME --limit=N`
  pub name_then : (program name limit : Text) → IsName name → ¬ IsLimitText limit
      → words ≡ program ∷ codes "rehearse" ∷ (codes "--name=" ++ name)
      ∷ (codes "--limit=" ++ limit) ∷ [] → line ≡ Bad Limit

-- `--help` and `--version` are answered, and no command at all is a fault, whatever the program's
-- name
pub record ReportsHelp (words : List Text) (line : CommandLine) : Type 0 where
  pub help : (program : Text) → words ≡ program ∷ codes "--help" ∷ [] →
      IsReportedAs DisplayHelp line
  pub version : (program : Text) → words ≡ program ∷ codes "--version" ∷ []
      → IsReportedAs DisplayVersion line
  pub bare : (program : Text) → words ≡ program ∷ [] → IsReportedAs MissingSubcommand line

-- the line inspects the file of this path
abbrev pub Inspects : Text → CommandLine → Type 0
Inspects path (Run (Inspect file)) = string_bytes file ≡ path
Inspects path line = ⊥

-- a word that is no option: it doesn't begin with a hyphen
abbrev pub IsPlain : Text → Type 0
IsPlain [] = ⊤
IsPlain (byte ∷ bytes) = byte ≢ 45

-- these files are inspected
abbrev pub inspection_of : List Text → PlainInspection
inspection_of files = record { files = files; json = false; human = false; digest = false }

-- `inspect FILE..` runs, with its options, whatever the program's name; no file is a fault, and so
-- are two ways to print, and standard input beside what can't be done with it
pub record RunsInspect (words : List Text) (line : CommandLine) : Type 0 where
  pub file : (program path : Text) → IsPlain path
      → words ≡ program ∷ codes "inspect" ∷ path ∷ [] → Inspects path line
  pub none : (program : Text) → words ≡ program ∷ codes "inspect" ∷ []
      → IsReportedAs MissingRequiredArgument line
  -- `inspect FILE FILE`
  pub two : (program path other : Text) → IsPlain path → IsPlain other
      → words ≡ program ∷ codes "inspect" ∷ path ∷ other ∷ []
      → RunsFor (InspectingFiles (inspection_of (path ∷ other ∷ []))) line
  -- `inspect --json FILE`
  pub json : (program path : Text) → IsPlain path
      → words ≡ program ∷ codes "inspect" ∷ codes "--json" ∷ path ∷ []
      → RunsFor (InspectingFiles (record (inspection_of (path ∷ [])) { json = true })) line
  -- `inspect FILE FILE --json`
  pub json_last : (program path other : Text) → IsPlain path → IsPlain other
      → words ≡ program ∷ codes "inspect" ∷ path ∷ other ∷ codes "--json" ∷ []
      → RunsFor (InspectingFiles (record (inspection_of (path ∷ other ∷ [])) { json = true })) line
  -- `inspect --human FILE`
  pub human : (program path : Text) → IsPlain path
      → words ≡ program ∷ codes "inspect" ∷ codes "--human" ∷ path ∷ []
      → RunsFor (InspectingFiles (record (inspection_of (path ∷ [])) { human = true })) line
  -- `inspect --digest FILE`
  pub digest : (program path : Text) → IsPlain path
      → words ≡ program ∷ codes "inspect" ∷ codes "--digest" ∷ path ∷ []
      → RunsFor (InspectingFiles (record (inspection_of (path ∷ [])) { digest = true })) line
  -- `inspect -`
  pub input : (program : Text) → words ≡ program ∷ codes "inspect" ∷ codes "-" ∷ []
      → Inspects (codes "-") line
  -- `inspect --json --human FILE`
  pub both : (program path : Text) → IsPlain path
      → words ≡ program ∷ codes "inspect" ∷ codes "--json" ∷ codes "--human" ∷ path ∷ []
      → line ≡ Bad Inspection
  -- `inspect --digest -`
  pub input_twice : (program : Text)
      → words ≡ program ∷ codes "inspect" ∷ codes "--digest" ∷ codes "-" ∷ []
      → line ≡ Bad Inspection
  -- `inspect - FILE`
  pub input_beside : (program path : Text) → IsPlain path
      → words ≡ program ∷ codes "inspect" ∷ codes "-" ∷ path ∷ []
      → line ≡ Bad Inspection
