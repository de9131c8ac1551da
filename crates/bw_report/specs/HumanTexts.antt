-- A report for people.
use Rattle.std.specs.Prelude.{ℕ, ◌==◌, List, [], ◌∷◌, ◌++◌, map, flat_map, slice_index, codes}
use Rattle.std.specs.Prelude.{decimal, Option, Some, None, if◌then◌else◌}
use Rattle.bw_model.specs.Reading.{Entry}
use Rattle.bw_model.specs.Report.{RawFmt, RawBext, RawCue, Report, frames_of, id_byte}
use Rattle.bw_console.specs.Text.{as_line}
use Rattle.bw_report.specs.Objects.{bext_text}
use Rattle.bw_report.specs.ShownTexts.{shown_text}
use Rattle.bw_report.specs.Times.{milliseconds}
use Rattle.bw_report.specs.UnitTexts.{level_text, size_text, time_text}

-- the line of the form
abbrev pub human_form : List ℕ → ℕ → List ℕ
human_form id size = as_line (codes "form " ++ id ++ codes " " ++ size_text size)

-- a format tag (RIFF WAVE) by its name, or its number
abbrev pub tag_text : ℕ → List ℕ
tag_text n =
    if n == 1 then codes "PCM"
    else if n == 3 then codes "float"
    else if n == 0xFFFE then codes "extensible"
    else codes "tag " ++ decimal n

-- so many channels
abbrev pub channels_text : ℕ → List ℕ
channels_text n = if n == 1 then codes "1 channel" else decimal n ++ codes " channels"

-- the line of the samples' format
abbrev pub human_format : RawFmt → List ℕ
human_format f = as_line (codes "format " ++ tag_text f.tag ++ codes " " ++ decimal f.rate
    ++ codes " Hz " ++ decimal f.bits ++ codes " bits " ++ channels_text f.channels)

-- the line of a time under a name
abbrev pub time_line : List ℕ → Option ℕ → List ℕ
time_line name ms = as_line (name ++ codes " " ++ time_text ms)

-- how long the samples last, and how many they are
abbrev pub samples_lines : ℕ → RawFmt → List ℕ
samples_lines size f =
    time_line (codes "duration") (milliseconds (frames_of size f.align) f.rate)
    ++ as_line (codes "samples " ++ size_text size ++ codes " " ++ decimal (frames_of size f.align)
    ++ codes " frames")

-- the line of a text under a name, if the text isn't empty
abbrev pub shown_line : List ℕ → List ℕ → List ℕ
shown_line name [] = []
shown_line name (c ∷ cs) = as_line (name ++ codes " " ++ shown_text (c ∷ cs))

-- what was recorded, and by whom
abbrev pub named_lines : RawBext → List ℕ
named_lines b = shown_line (codes "description") (bext_text b 0)
    ++ shown_line (codes "originator") (bext_text b 1)
    ++ shown_line (codes "reference") (bext_text b 2)

-- when, with the time of day at this rate
abbrev pub dated_lines : ℕ → RawBext → List ℕ
dated_lines rate b = shown_line (codes "date") (bext_text b 3)
    ++ shown_line (codes "clock") (bext_text b 4)
    ++ time_line (codes "time of day") (milliseconds b.time rate)

-- the line of a level under a name, with its unit
abbrev pub level_line : List ℕ → List ℕ → ℕ → List ℕ
level_line name unit n = as_line (name ++ codes " " ++ level_text unit n)

-- the loudness and its range
abbrev pub range_lines : ℕ → ℕ → List ℕ
range_lines value range = level_line (codes "loudness") (codes "LUFS") value
    ++ level_line (codes "loudness range") (codes "LU") range

-- the true peak
abbrev pub true_peak_line : ℕ → List ℕ
true_peak_line peak = level_line (codes "true peak") (codes "dBTP") peak

-- the greatest loudness of short times
abbrev pub loudest_lines : ℕ → ℕ → List ℕ
loudest_lines momentary short = level_line (codes "momentary") (codes "LUFS") momentary
    ++ level_line (codes "short-term") (codes "LUFS") short

-- the five levels, if the version has them (EBU Tech 3285; EBU R 128)
abbrev pub level_lines : List ℕ → List ℕ
level_lines [] = []
level_lines (n ∷ ns) = range_lines (slice_index (n ∷ ns) 0) (slice_index (n ∷ ns) 1)
    ++ true_peak_line (slice_index (n ∷ ns) 2)
    ++ loudest_lines (slice_index (n ∷ ns) 3) (slice_index (n ∷ ns) 4)

-- the lines of a `bext` chunk, if there is one, at this rate
abbrev pub human_bext : ℕ → Option (RawBext × ℕ) → List ℕ
human_bext rate None = []
human_bext rate (Some b) = named_lines b.0 ++ dated_lines rate b.0 ++ level_lines b.0.loudness

-- the line of a cue point: its identifier, and its time at this rate
abbrev pub marker_line : ℕ → RawCue → List ℕ
marker_line rate c = as_line (codes "marker " ++ decimal c.id ++ codes " "
    ++ time_text (milliseconds c.offset rate))

-- the line of a chunk: its identifier and its size
abbrev pub human_chunk : Entry → List ℕ
human_chunk e = as_line (codes "chunk " ++ map id_byte e.id ++ codes " " ++ size_text e.size)

-- the form, and the samples' format
abbrev pub head_lines : Report → List ℕ
head_lines r = human_form r.form r.size ++ human_format r.fmt

-- .. and how many samples there are
abbrev pub sound_lines : Report → List ℕ
sound_lines r = head_lines r ++ samples_lines r.data_size r.fmt

-- the markers and the chunks
abbrev pub mark_lines : Report → List ℕ
mark_lines r = flat_map (marker_line r.fmt.rate) r.cues ++ flat_map human_chunk r.chunks

-- what is known beside the samples
abbrev pub rest_lines : Report → List ℕ
rest_lines r = human_bext r.fmt.rate r.bext ++ mark_lines r

-- the report, line by line
abbrev pub human_text : Report → List ℕ
human_text r = sound_lines r ++ rest_lines r
