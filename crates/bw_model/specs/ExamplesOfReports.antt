-- Worked rows: the text of a report.
use Rattle.std.specs.Prelude.{◌≡◌, ℕ, List, [], ◌∷◌, ◌++◌, codes, flat_map, replicate, take, drop}
use Prim.Native.String.{String}
use Rattle.bw_model.specs.Reading.{Entry, Form}
use Rattle.bw_model.specs.Report.{report_of, report_text}
use Rattle.bw_model.specs.ExampleWords.{hex, empty_file, small_file, cue_file, entry, riff}
use Rattle.bw_model.specs.ExamplesOfReadings.{rf64, rf64_form, rf64_entries, tabled, tabled_form}
use Rattle.bw_model.specs.ExamplesOfReadings.{tabled_entries, small_entries}

-- a reading's report has this text
abbrev pub Reports : List ℕ → Form → List Entry → List ℕ → Type 0
Reports b form entries text = report_text (report_of b form entries) ≡ text

-- these lines
abbrev pub lines : List String → List ℕ
lines text = flat_map (λ s. codes s ++ 10 ∷ []) text

-- the line of 48,000 Hz, one channel and 16 bits
abbrev pub mono_line : String
mono_line = "fmt tag=1 channels=1 rate=48000 bytes=96000 align=2 bits=16"

-- the chunks before the data, of a file with 602 bytes of `bext`
abbrev pub plain_lines : List ℕ
plain_lines = lines ("chunk JUNK 12 28" ∷ "chunk fmt. 48 16" ∷ "chunk bext 72 602" ∷ [])

-- the texts of a `bext` without fields
abbrev pub no_text_lines : List ℕ
no_text_lines =
    lines ("description=" ∷ "originator=" ∷ "reference=" ∷ "date=" ∷ "clock=" ∷ [])
    ++ codes "umid=" ++ replicate 128 48 ++ 10 ∷ []

-- an RF64 file: an id's blank is printed as a full stop
abbrev pub ReportRf64Example : Type 0
ReportRf64Example = Reports
    rf64 rf64_form rf64_entries
    (lines ("form RF64 90" ∷ "chunk ds64 12 28" ∷ "chunk fmt. 48 18" ∷ "chunk LIST 74 4"
    ∷ "chunk data 86 4" ∷ mono_line ∷ "data at=94 bytes=4 frames=2" ∷ []))

-- a BW64 file: a size that the table gives
abbrev pub ReportTabledExample : Type 0
ReportTabledExample = Reports
    tabled tabled_form tabled_entries
    (lines ("form BW64 102" ∷ "chunk ds64 12 40" ∷ "chunk fmt. 60 18" ∷ "chunk LIST 86 4"
    ∷ "chunk data 98 4" ∷ mono_line ∷ "data at=106 bytes=4 frames=2" ∷ []))

-- the file of two frames
abbrev pub ReportSmallExample : Type 0
ReportSmallExample = Reports
    small_file (riff 686) small_entries
    (lines ("form RIFF 686" ∷ []) ++ plain_lines
    ++ lines ("chunk data 682 4" ∷ mono_line ∷ "data at=690 bytes=4 frames=2"
    ∷ "bext version=1 time=0 history=0" ∷ []) ++ no_text_lines)

-- the file of a loudness: version 2, and what isn't given is unset
abbrev pub loud_file : List ℕ
loud_file =
    take 426 empty_file ++ hex "0200" ++ drop 428 (take 492 empty_file)
    ++ hex "04f7ff7fff7fff7fff7f"
    ++ drop 502 empty_file

-- a loudness that is given is printed as its number, and the others are unset
abbrev pub ReportLoudnessExample : Type 0
ReportLoudnessExample = Reports
    loud_file (riff 682)
    (entry "JUNK" 12 28 ∷ entry "fmt " 48 16 ∷ entry "bext" 72 602 ∷ entry "data" 682 0 ∷ [])
    (lines ("form RIFF 682" ∷ []) ++ plain_lines
    ++ lines ("chunk data 682 0" ∷ mono_line ∷ "data at=690 bytes=0 frames=0"
    ∷ "bext version=2 time=0 history=0" ∷ []) ++ no_text_lines
    ++ lines ("loudness value=-2300 range=unset peak=unset momentary=unset short=unset" ∷ []))

-- the file with a cue point, a text with a backslash and a line end in its Description, and 3 as
-- its time reference
abbrev pub marked_file : List ℕ
marked_file =
    take 80 cue_file ++ hex "415c0a" ++ drop 83 (take 418 cue_file) ++ hex "03" ++ drop 419 cue_file

-- a backslash and a line end are printed by their digits, and the cue point by a line
abbrev pub ReportMarkedExample : Type 0
ReportMarkedExample = Reports
    marked_file (riff 722)
    (entry "JUNK" 12 28 ∷ entry "fmt " 48 16 ∷ entry "bext" 72 602 ∷ entry "data" 682 4
    ∷ entry "cue " 694 28 ∷ [])
    (lines ("form RIFF 722" ∷ []) ++ plain_lines
    ++ lines ("chunk data 682 4" ∷ "chunk cue. 694 28" ∷ mono_line ∷ "data at=690 bytes=4 frames=2"
    ∷ "bext version=1 time=3 history=0" ∷ []) ++ codes "description=A" ++ hex "5c783563"
    ++ hex "5c783061" ++ 10 ∷ [] ++ lines ("originator=" ∷ "reference=" ∷ "date=" ∷ "clock=" ∷ [])
    ++ codes "umid=" ++ replicate 128 48 ++ 10 ∷ [] ++ lines ("cue id=7 position=2 offset=2" ∷ []))
