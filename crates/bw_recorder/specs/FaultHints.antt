-- What to do about the fault of a recording, as a line below that of the fault.
use Rattle.std.specs.Prelude.{ℕ, List, [], ◌++◌, Option, Some, None, codes, decimal}
use Rattle.bw_inspect.specs.Hints.{file_hint, format_line}
use Rattle.bw_inspect.specs.declared.fault.InspectKind.{InspectKind}
use Rattle.bw_inspect.specs.declared.fault.InspectKind.TheVariants.{NotWave}
use Rattle.bw_inspect.specs.declared.other.OtherFormat.{OtherFormat}
use Rattle.bw_plan.specs.declared.fault.RecordingKind.{RecordingKind}
use Rattle.bw_plan.specs.declared.fault.RecordingKind.TheVariants.{Unread, Foreign, Float, NotPcm}
use Rattle.bw_plan.specs.declared.fault.RecordingKind.TheVariants.{Short, Unclean}
use Rattle.bw_plan.specs.declared.fault.RecordingFault.{RecordingFault}
use Rattle.bw_plan.specs.declared.unclean.UncleanPart.{UncleanPart}
use Rattle.bw_plan.specs.declared.unclean.UncleanPart.TheVariants.{Byte, Form, HistoryByte}
use Rattle.bw_plan.specs.declared.unclean.UncleanPart.TheVariants.{LongHistory, Cues}
use Rattle.bw_recorder.specs.WarningTexts.{key_of}

-- a file whose bytes name this other format isn't read for this
abbrev pub named_kind : InspectKind → OtherFormat → RecordingKind
named_kind NotWave format = Foreign format
named_kind kind format = Unread kind

-- .. whose bytes name this other format, if any
abbrev pub unread_kind : InspectKind → Option OtherFormat → RecordingKind
unread_kind kind None = Unread kind
unread_kind kind (Some format) = named_kind kind format

-- the samples are floating-point numbers of so many bits
abbrev pub float_line : ℕ → List ℕ
float_line bits =
    codes "hint: " ++ decimal bits
    ++ codes "-bit float samples aren't taken: ffmpeg -i OLD -c:a pcm_s24le NEW.wav\n"

-- the samples are no PCM
abbrev pub not_pcm_line : List ℕ
not_pcm_line = codes "hint: samples that are no PCM aren't taken: ffmpeg -i OLD -c:a pcm_s24le NEW.wav\n"

-- headerless samples begin after the file's end
abbrev pub short_line : List ℕ
short_line = codes "hint: --skip passes over more bytes than the file has\n"

-- a byte of a text, by its place there
abbrev pub byte_line : List ℕ → ℕ → ℕ → List ℕ
byte_line key offset byte =
    codes "hint: "
    ++ (key ++ (codes " has byte " ++ (decimal byte ++ (codes " at " ++ (decimal offset
    ++ codes ": without --strict-texts it is cleaned\n")))))

-- a date or a time
abbrev pub other_form_line : List ℕ → List ℕ
other_form_line key =
    codes "hint: " ++ key ++ codes " has another form: without --strict-texts it is cleaned or left out\n"

-- what would be cleaned, which `--strict-texts` forbids
abbrev pub unclean_line : UncleanPart → List ℕ
unclean_line (Byte tag offset byte) = byte_line (key_of tag) offset byte
unclean_line (Form tag) = other_form_line (key_of tag)
unclean_line (HistoryByte offset byte) = byte_line (codes "history") offset byte
unclean_line LongHistory = codes "hint: history has more than 4096 bytes: without --strict-texts it is cut\n"
unclean_line Cues =
    codes "hint: not all cue points are kept: without --strict-texts the others are left out\n"

-- by the kind of the fault, and its place; nothing where it isn't known
abbrev pub kind_hint : RecordingKind → ℕ → List ℕ
kind_hint (Unread kind) place = file_hint kind place
kind_hint (Foreign format) place = format_line format
kind_hint (Float bits) place = float_line bits
kind_hint NotPcm place = not_pcm_line
kind_hint Short place = short_line
kind_hint (Unclean part) place = unclean_line part
kind_hint _ place = []

abbrev pub recording_hint : RecordingFault → List ℕ
recording_hint f = kind_hint f.kind f.offset
