-- A report as JSON. The members of an object are in the order of their keys, as they are printed.
use Rattle.std.specs.Prelude.{ℕ, ◌==◌, not, List, [], ◌∷◌, map, take_while, slice_index}
use Rattle.std.specs.Prelude.{slice_index_or, Option, Some, None, codes, true, false}
use Rattle.bw_model.specs.Reading.{Entry}
use Rattle.bw_model.specs.Report.{RawFmt, RawBext, RawCue, Report, frames_of}
use Rattle.serde_json.specs.Data.{Data, null, boolean, string, array, object, Members, no_members}
use Rattle.serde_json.specs.Data.{member, put}
use Rattle.serde_json.specs.View.{items_of}
use Rattle.bw_contents.specs.Texts.{Said}
use Rattle.bw_report.specs.ContentTexts.{contents_or_null}
use Rattle.bw_report.specs.Times.{milliseconds}
use Rattle.bw_report.specs.Values.{hex_data, hex_or_null, level_data, number_data, number_or_null}
use Rattle.bw_report.specs.Values.{text_data, with_text}

-- a chunk as it is listed
abbrev pub chunk_data : Entry → Data
chunk_data e = object
    (member (codes "at") (number_data e.place)
    (member (codes "id") (text_data e.id)
    (member (codes "id_hex") (hex_data e.id)
    (member (codes "size") (number_data e.size) no_members))))

-- the `fmt ` chunk
abbrev pub fmt_data : RawFmt → Data
fmt_data f = object
    (member (codes "align") (number_data f.align)
    (member (codes "bits") (number_data f.bits)
    (member (codes "bytes") (number_data f.bytes_per_second)
    (member (codes "channels") (number_data f.channels)
    (member (codes "rate") (number_data f.rate)
    (member (codes "tag") (number_data f.tag) no_members))))))

-- the samples: where they begin, their bytes, whole frames and milliseconds
abbrev pub samples_data : ℕ → ℕ → RawFmt → Data
samples_data place size f = object
    (member (codes "at") (number_data place)
    (member (codes "bytes") (number_data size)
    (member (codes "frames") (number_data (frames_of size f.align))
    (member (codes "ms") (number_or_null (milliseconds (frames_of size f.align) f.rate))
    no_members))))

-- a cue point, its time by its sample's offset, at this rate
abbrev pub cue_data : ℕ → RawCue → Data
cue_data rate c = object
    (member (codes "id") (number_data c.id)
    (member (codes "ms") (number_or_null (milliseconds c.offset rate))
    (member (codes "offset") (number_data c.offset)
    (member (codes "position") (number_data c.position) no_members))))

-- the five levels, in hundredths; null if the version has none
abbrev pub loudness_data : List ℕ → Data
loudness_data [] = null
loudness_data (n ∷ ns) = object
    (member (codes "momentary") (level_data (slice_index (n ∷ ns) 3))
    (member (codes "peak") (level_data (slice_index (n ∷ ns) 2))
    (member (codes "range") (level_data (slice_index (n ∷ ns) 1))
    (member (codes "short") (level_data (slice_index (n ∷ ns) 4))
    (member (codes "value") (level_data (slice_index (n ∷ ns) 0)) no_members)))))

-- members with the levels but the loudness itself
abbrev pub with_other_levels : List ℕ → Members → Members
with_other_levels ns members =
    put (codes "momentary") (level_data (slice_index ns 3))
    (put (codes "peak") (level_data (slice_index ns 2))
    (put (codes "range") (level_data (slice_index ns 1))
    (put (codes "short") (level_data (slice_index ns 4)) members)))

-- a text of `bext`, before its first zero byte: 0 is the description, 1 the originator, 2 its
-- reference, 3 the date, 4 the clock
abbrev pub bext_text : RawBext → ℕ → List ℕ
bext_text b i = take_while (λ c. not (c == 0)) (slice_index_or b.texts i [])

-- members with the five texts
abbrev pub with_texts : RawBext → Members → Members
with_texts b members =
    with_text (codes "clock") (codes "clock_hex") (bext_text b 4)
    (with_text (codes "date") (codes "date_hex") (bext_text b 3)
    (with_text (codes "reference") (codes "reference_hex") (bext_text b 2)
    (with_text (codes "originator") (codes "originator_hex") (bext_text b 1)
    (with_text (codes "description") (codes "description_hex") (bext_text b 0) members))))

-- members with the time reference, in samples and as a time of day in milliseconds at this rate
abbrev pub with_times : ℕ → RawBext → Members → Members
with_times rate b members =
    put (codes "time_of_day") (number_or_null (milliseconds b.time rate))
    (put (codes "time") (number_data b.time) members)

-- members with what is neither text nor time
abbrev pub with_others : RawBext × ℕ → Members → Members
with_others b members =
    put (codes "version") (number_data b.0.version)
    (put (codes "umid") (hex_data b.0.umid)
    (put (codes "loudness") (loudness_data b.0.loudness)
    (put (codes "history") (number_data b.1) members)))

-- a `bext` chunk: its fields, its history's length, and the time of day of its time reference, in
-- milliseconds at this rate
abbrev pub bext_data : ℕ → RawBext × ℕ → Data
bext_data rate b = object
    (member (codes "clock") (text_data (bext_text b.0 4))
    (member (codes "clock_hex") (hex_data (bext_text b.0 4))
    (member (codes "date") (text_data (bext_text b.0 3))
    (member (codes "date_hex") (hex_data (bext_text b.0 3))
    (member (codes "description") (text_data (bext_text b.0 0))
    (member (codes "description_hex") (hex_data (bext_text b.0 0))
    (member (codes "history") (number_data b.1)
    (member (codes "loudness") (loudness_data b.0.loudness)
    (member (codes "originator") (text_data (bext_text b.0 1))
    (member (codes "originator_hex") (hex_data (bext_text b.0 1))
    (member (codes "reference") (text_data (bext_text b.0 2))
    (member (codes "reference_hex") (hex_data (bext_text b.0 2))
    (member (codes "time") (number_data b.0.time)
    (member (codes "time_of_day") (number_or_null (milliseconds b.0.time rate))
    (member (codes "umid") (hex_data b.0.umid)
    (member (codes "version") (number_data b.0.version) no_members))))))))))))))))

-- the same, or null
abbrev pub bext_or_null : ℕ → Option (RawBext × ℕ) → Data
bext_or_null rate None = null
bext_or_null rate (Some b) = bext_data rate b

-- what is in a file, under its name
abbrev pub contents_data : List ℕ → ℕ → Data → Data → Data → Data → Data → Data → Data →
    Data → Data → Data
contents_data name size bext chunks contents cues samples fmt form form_hex sha256 = object
    (member (codes "at") null
    (member (codes "bext") bext
    (member (codes "chunks") chunks
    (member (codes "contents") contents
    (member (codes "cues") cues
    (member (codes "data") samples
    (member (codes "fault") null
    (member (codes "file") (string name)
    (member (codes "fmt") fmt
    (member (codes "form") form
    (member (codes "form_hex") form_hex
    (member (codes "ok") (boolean true)
    (member (codes "sha256") sha256
    (member (codes "size") (number_data size) no_members))))))))))))))

-- the file of a name that has this report, with the SHA-256 of its samples and what its chunks say,
-- if these are given
abbrev pub report_data : List ℕ → Option (List ℕ) → Option (List Said) → Report → Data
report_data name digest contents r = contents_data name r.size
    (bext_or_null r.fmt.rate r.bext)
    (array (items_of (map chunk_data r.chunks)))
    (contents_or_null contents)
    (array (items_of (map (cue_data r.fmt.rate) r.cues)))
    (samples_data r.data_at r.data_size r.fmt)
    (fmt_data r.fmt)
    (text_data r.form)
    (hex_data r.form)
    (hex_or_null digest)

-- the file of a name that has none, for a fault of this name, which was met at a place
abbrev pub fault_data : List ℕ → List ℕ → Option ℕ → Data
fault_data name fault place = object
    (member (codes "at") (number_or_null place)
    (member (codes "bext") null
    (member (codes "chunks") null
    (member (codes "contents") null
    (member (codes "cues") null
    (member (codes "data") null
    (member (codes "fault") (string fault)
    (member (codes "file") (string name)
    (member (codes "fmt") null
    (member (codes "form") null
    (member (codes "form_hex") null
    (member (codes "ok") (boolean false)
    (member (codes "sha256") null
    (member (codes "size") null no_members))))))))))))))

-- members with what is said of the whole file
abbrev pub with_whole_file : Option (List ℕ) → Report → Members → Members
with_whole_file digest r members = put (codes "ok") (boolean true)
    (put (codes "sha256") (hex_or_null digest) (put (codes "size") (number_data r.size) members))

-- members with the form and the format
abbrev pub with_form_and_format : Report → Members → Members
with_form_and_format r members = put (codes "fmt") (fmt_data r.fmt)
    (put (codes "form") (text_data r.form) (put (codes "form_hex") (hex_data r.form) members))

-- members with the name and the samples
abbrev pub with_placed_samples : List ℕ → Report → Members → Members
with_placed_samples name r members = put (codes "data") (samples_data r.data_at r.data_size r.fmt)
    (put (codes "fault") null (put (codes "file") (string name) members))

-- members with the cue points, the chunks and `bext`
abbrev pub with_placed_parts : Report → Members → Members
with_placed_parts r members = put (codes "at") null
    (put (codes "bext") (bext_or_null r.fmt.rate r.bext)
    (put (codes "chunks") (array (items_of (map chunk_data r.chunks)))
    (put (codes "cues") (array (items_of (map (cue_data r.fmt.rate) r.cues))) members)))

-- members with what the chunks say
abbrev pub with_contents : Option (List Said) → Members → Members
with_contents contents members = put (codes "contents") (contents_or_null contents) members

-- members with those of a chunk
abbrev pub with_listed_chunk : Entry → Members → Members
with_listed_chunk e members = put (codes "at") (number_data e.place)
    (put (codes "id") (text_data e.id)
    (put (codes "id_hex") (hex_data e.id) (put (codes "size") (number_data e.size) members)))

-- members with those of the `fmt ` chunk
abbrev pub with_fmt_chunk : RawFmt → Members → Members
with_fmt_chunk f members = put (codes "align") (number_data f.align)
    (put (codes "bits") (number_data f.bits)
    (put (codes "bytes") (number_data f.bytes_per_second)
    (put (codes "channels") (number_data f.channels)
    (put (codes "rate") (number_data f.rate) (put (codes "tag") (number_data f.tag) members)))))

-- members with those of a cue point, at this rate
abbrev pub with_cue_point : ℕ → RawCue → Members → Members
with_cue_point rate c members = put (codes "id") (number_data c.id)
    (put (codes "ms") (number_or_null (milliseconds c.offset rate))
    (put (codes "offset") (number_data c.offset)
    (put (codes "position") (number_data c.position) members)))

-- members with those of the samples
abbrev pub with_samples_place : ℕ → ℕ → RawFmt → Members → Members
with_samples_place place size f members = put (codes "at") (number_data place)
    (put (codes "bytes") (number_data size)
    (put (codes "frames") (number_data (frames_of size f.align))
    (put (codes "ms") (number_or_null (milliseconds (frames_of size f.align) f.rate)) members)))

-- members with null for what is said of the whole file, its form and its format
abbrev pub without_format : Members → Members
without_format members = put (codes "fmt") null (put (codes "form") null
    (put (codes "form_hex") null (put (codes "sha256") null (put (codes "size") null members))))

-- members with null for the samples and the chunks
abbrev pub without_parts : Members → Members
without_parts members = put (codes "bext") null (put (codes "chunks") null
    (put (codes "contents") null (put (codes "cues") null (put (codes "data") null members))))

-- members with the name, and the fault with its place
abbrev pub with_fault : List ℕ → List ℕ → Option ℕ → Members → Members
with_fault name fault place members = put (codes "at") (number_or_null place)
    (put (codes "fault") (string fault)
    (put (codes "file") (string name) (put (codes "ok") (boolean false) members)))
