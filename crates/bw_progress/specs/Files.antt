-- What a file is measured by.
use Rattle.std.specs.Prelude.{◌≡◌, ℕ, List, Some, Ok, map, string_bytes}
use Rattle.bw_plan.specs.Recordings.{Options, Outline, Recording, recording_of}
use Rattle.bw_recorder.specs.SettingLists.{options_of}
use Rattle.bw_recorder.specs.declared.job.RecordingFile.{RecordingFile}

-- the bytes have a recording with this outline
abbrev pub HasOutline : List ℕ → Options → Outline → Type 0
HasOutline b o outline = (recording : Recording) × (recording_of b o ≡ Ok recording)
    × (recording.outline ≡ outline)

-- what is asked for beside the file can be read, and this holds of it
abbrev pub HoldsOfOptions : RecordingFile → (Options → Type 0) → Type 0
HoldsOfOptions file holds = (o : Options)
    × (options_of (map string_bytes file.settings.now) file.strict file.frames ≡ Some o) × holds o
