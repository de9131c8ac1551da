-- What is done for the command lines about recordings.
use Rattle.std.specs.Prelude.{◌≡◌, ℕ, List, Option, None, map, string_bytes, if◌then◌else◌}
use Rattle.clap.specs.Walk.{Text}
use Rattle.bw_stream.specs.declared.sink.Sink.{Ghosts as Writer}
use Rattle.bw_args.specs.declared.recordings.SourceFile.{SourceFile}
use Rattle.bw_console.specs.Prints.{failures_if}
use Rattle.bw_console.specs.declared.exit.Exit.{Exit}
use Rattle.bw_plan.specs.declared.options.Strictness.{Strictness}
use Rattle.bw_plan.specs.declared.options.Strictness.TheVariants.{Lenient, Texts, Full}
use Rattle.bw_recorder.specs.Packs.{HasPacked, IsPack, Packing}
use Rattle.bw_recorder.specs.declared.job.RecordingFile.{RecordingFile}

-- what a recording may not lose: nothing at all, if both is asked for
abbrev pub strictness_of : SourceFile → Strictness
strictness_of source =
    if source.strict then Full else if source.strict_texts then Texts else Lenient

-- the recording's file that a command line names
pub record IsRecordingFile (source : SourceFile) (file : RecordingFile) : Type 0 where
  pub path : file.path.now ≡ string_bytes source.path
  pub settings : map string_bytes file.settings.now ≡ map string_bytes source.settings.items
  pub strict : file.strict ≡ strictness_of source
  pub blocks : file.frames ≡ None

module _ {O E : Type 0} (out : Writer O) (reported : Writer E) where
  -- the requests of the recording in this file were printed, as far as it is one
  pub record Packs (file_at : Text → Option (List ℕ)) (source : SourceFile) (exit : Exit) (f f' : ℕ)
      (o o' : O) (e e' : E) : Type 0 where
    pub did : Packing
    pub ends : did.exit ≡ exit
    pub is : IsPack (file_at (string_bytes source.path)) (string_bytes source.path)
        (map string_bytes source.settings.items) (strictness_of source) None did
    pub failures : f' ≡ failures_if did.is_system_well f
    pub writes : HasPacked out reported did o o' e e'
