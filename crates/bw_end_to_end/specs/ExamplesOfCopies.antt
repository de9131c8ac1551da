-- Worked rows: files, and the files of their recordings' takes.
use Rattle.std.specs.Prelude.{◌≡◌, ℕ, true, false, Option, Some, None, Result, Ok, Err, List, []}
use Rattle.std.specs.Prelude.{◌∷◌, codes}
use Rattle.bw_model.specs.Take.{Open, Block, SetField, Close}
use Rattle.bw_model.specs.File.{file_of}
use Rattle.bw_model.specs.Book.{made_by}
use Rattle.bw_model.specs.ExampleWords.{hex, mono, small_file, cue_file, two_frames, example_limit}
use Rattle.bw_plan.specs.Plans.{plan}
use Rattle.bw_plan.specs.Recordings.{Options, no_options, Field, Recording, FaultAt, recording_of}
use Rattle.bw_plan.specs.PcmRecordings.{pcm_recording_of}
use Rattle.bw_plan.specs.declared.options.Strictness.TheVariants.{Texts}
use Rattle.bw_plan.specs.ExamplesOfPlans.{planned, changed, extensible_file, mono_after}
use Rattle.bw_end_to_end.specs.Copies.{read_again}

-- the file of the take that a recording makes in blocks of one frame, if there is a recording
abbrev pub file_by : Result Recording FaultAt → Option (List ℕ)
file_by (Ok r) = file_of (made_by false (plan 1 r)) example_limit
file_by (Err fault) = None

-- the server's file of what is sent of the first file, without any option, is the second one
abbrev pub CopiesTo : List ℕ → List ℕ → Type 0
CopiesTo source copy = file_by (recording_of source no_options) ≡ Some copy

-- a zero time is set
abbrev pub zero_time : Options
zero_time = record no_options { settings = Field 6 (hex "0000000000000000") ∷ [] }

-- a file that a server wrote comes again, byte for byte
abbrev pub SameFileExample : Type 0
SameFileExample = CopiesTo small_file small_file × CopiesTo cue_file cue_file

-- of an extensible format the plain one is kept
abbrev pub ExtensibleCopyExample : Type 0
ExtensibleCopyExample = CopiesTo extensible_file small_file

-- a letter of UTF-8 loses its accent, a date gets its own separators, and no other byte of
-- the file differs
abbrev pub CleanedCopyExample : Type 0
CleanedCopyExample =
    CopiesTo (changed 80 (hex "4dc3bc72")) (changed 80 (codes "Mur"))
    × CopiesTo (changed 400 (codes "2024.05:01")) (changed 400 (codes "2024-05-01"))

-- the file of what is cleaned reads as the cleaned recording, also where nothing may be cleaned
abbrev pub ReadAgainExample : Type 0
ReadAgainExample =
    recording_of (changed 80 (codes "Mur")) (read_again Texts)
    ≡ recording_of (changed 80 (hex "4dc3bc72")) no_options

-- A time that is set to zero is sent, but its file is the one without it, and reads so: there the
-- copy isn't the recording.
abbrev pub NotGivenExample : Type 0
NotGivenExample =
    (planned 2 (recording_of small_file zero_time)
    ≡ Ok (Open mono [] ∷ SetField 6 (hex "0000000000000000") ∷ Block two_frames ∷ Close 2 ∷ []))
    × (file_by (recording_of small_file zero_time) ≡ Some small_file)
    × (recording_of small_file zero_time ≡ recording_of small_file no_options → ⊥)

-- headerless samples after a byte
abbrev pub PcmCopyExample : Type 0
PcmCopyExample =
    file_by (pcm_recording_of (255 ∷ two_frames) no_options (mono_after 1)) ≡ Some small_file
