-- What to do about a fault of a file, as a line below that of the fault.
use Rattle.std.specs.Prelude.{ℕ, List, [], ◌==◌, Option, Some, None, codes, if◌then◌else◌}
use Rattle.bw_inspect.specs.declared.fault.InspectKind.{InspectKind}
use Rattle.bw_inspect.specs.declared.fault.InspectKind.TheVariants.{NotWave, Truncated, NoSize, Read}
use Rattle.bw_inspect.specs.declared.other.OtherFormat.{OtherFormat}
use Rattle.bw_inspect.specs.declared.other.OtherFormat.TheVariants.{Flac, Aiff, Wave64}

-- the file begins as no WAVE file does
abbrev pub convert_line : List ℕ
convert_line =
    codes "hint: no WAVE file: convert FLAC, AIFF, W64 and others: ffmpeg -i OLD -c:a pcm_s24le NEW.wav\n"

-- the file begins as one of these does
abbrev pub format_line : OtherFormat → List ℕ
format_line Flac = codes "hint: a FLAC file: convert it: ffmpeg -i OLD -c:a pcm_s24le NEW.wav\n"
format_line Aiff = codes "hint: an AIFF file: convert it: ffmpeg -i OLD -c:a pcm_s24le NEW.wav\n"
format_line Wave64 = codes "hint: a Wave64 file: convert it: ffmpeg -i OLD -c:a pcm_s24le NEW.wav\n"

-- not one byte can be read
abbrev pub no_bytes_line : List ℕ
no_bytes_line = codes "hint: nothing of it can be read: it may be a directory\n"

-- the sizes aren't those of the bytes
abbrev pub mend_line : List ℕ
mend_line = codes "hint: its sizes are wrong, as where a recorder was cut off: see bwingest repair FILE\n"

-- a text for the place 0 alone
abbrev pub at_start : ℕ → List ℕ → List ℕ
at_start place text = if place == 0 then text else []

-- what to do about a form that isn't read, or nothing
abbrev pub form_hint : InspectKind → ℕ → List ℕ
form_hint NotWave place = at_start place convert_line
form_hint Read place = at_start place no_bytes_line
form_hint _ place = []

-- .. about an outer header that isn't one: its size is at 4
abbrev pub outer_hint : ℕ → List ℕ
outer_hint place = if place == 4 then mend_line else at_start place convert_line

-- .. about any fault of a file
abbrev pub file_hint : InspectKind → ℕ → List ℕ
file_hint NotWave place = outer_hint place
file_hint Truncated place = mend_line
file_hint NoSize place = mend_line
file_hint kind place = form_hint kind place

-- .. about any fault of a file whose bytes name this other format
abbrev pub named_hint : InspectKind → ℕ → OtherFormat → List ℕ
named_hint NotWave place format = format_line format
named_hint kind place format = file_hint kind place

-- .. whose bytes name this other format, if any
abbrev pub start_hint : InspectKind → ℕ → Option OtherFormat → List ℕ
start_hint kind place None = file_hint kind place
start_hint kind place (Some format) = named_hint kind place format
