-- What a recording loses of its file: what was cleaned, and what was left out.
use Rattle.std.specs.Prelude.{ℕ, suc, ◌-◌, Bool, not, ◌&&◌, ◌||◌, ◌==◌, List, [], ◌∷◌, ◌++◌, length, fold}
use Rattle.std.specs.Prelude.{codes, is_none, nat_le, nat_lt, if◌then◌else◌}
use Rattle.std.specs.Str.{bytes_eq}
use Rattle.bw_model.specs.Bytes.{u32_at}
use Rattle.bw_model.specs.Take.{Digits, field_fault}
use Rattle.bw_model.specs.Reading.{Entry}
use Rattle.bw_plan.specs.CleanedContents.{text_cleaned_of, history_of, value_of, is_like, is_history_kept}
use Rattle.bw_plan.specs.CleanedTexts.{cleaned_text}
use Rattle.bw_plan.specs.Recordings.{FileNotes, Outline, bext_texts, extensible}

pub data Warning : Type 0 where
  -- the text of the field with this tag became this other one
  FieldCleaned : ℕ → List ℕ → List ℕ → Warning
  -- the field with this tag is left out: a date or a time of another form
  FieldLeftOut : ℕ → Warning
  -- the coding history became this other one
  HistoryCleaned : List ℕ → List ℕ → Warning
  -- so many cue points are left out
  CuesLeftOut : ℕ → Warning
  -- the channel mask of an extensible format is left out
  MaskLeftOut : Warning
  -- a chunk that isn't carried
  ChunkLeftOut : Entry → Warning

-- one more warning, where the test holds
abbrev pub warned : List Warning → Bool → Warning → List Warning
warned ws holds w = if holds then ws ++ w ∷ [] else ws

-- the text is a date or a time of another form
abbrev pub is_other_form : ℕ → List ℕ → Bool
is_other_form tag text =
    ((tag == 4) && not (is_like (codes "dddd-dd-dd") text))
    || ((tag == 5) && not (is_like (codes "dd:dd:dd") text))

-- the text that is carried for that of a field's bytes
abbrev pub carried_text : ℕ → List ℕ → List ℕ
carried_text tag bytes =
    if tag == 4 then value_of (Digits (codes "dddd-dd-dd")) bytes
    else if tag == 5 then value_of (Digits (codes "dd:dd:dd")) bytes
    else cleaned_text (text_cleaned_of bytes)

-- the warning of a field whose text may not stay as it is
abbrev pub loss : ℕ → List ℕ → Warning
loss tag bytes =
    if is_other_form tag (text_cleaned_of bytes) then FieldLeftOut tag
    else FieldCleaned tag (text_cleaned_of bytes) (carried_text tag bytes)

-- the warnings with that of a field
abbrev pub field_warned : List Warning → ℕ → List ℕ → List Warning
field_warned ws tag bytes =
    warned ws (not (is_none (field_fault tag (text_cleaned_of bytes)))) (loss tag bytes)

-- .. of each of these fields, from a tag on
abbrev pub texts_warned : List Warning → ℕ → List (List ℕ) → List Warning
texts_warned ws tag [] = ws
texts_warned ws tag (bytes ∷ fields) = texts_warned (field_warned ws tag bytes) (suc tag) fields

-- the warnings with that of a coding history: of as much of it as shows whether it is too long
abbrev pub history_warned : List Warning → List ℕ → List Warning
history_warned ws bytes =
    warned ws (not (is_history_kept bytes)) (HistoryCleaned (text_cleaned_of bytes) (history_of bytes))

-- the chunk is carried, or holds only sizes, or nothing (RIFF: JUNK is a filler)
abbrev pub is_carried : List ℕ → Bool
is_carried id =
    bytes_eq id (codes "fmt ") || bytes_eq id (codes "bext") || bytes_eq id (codes "data")
    || bytes_eq id (codes "cue ") || bytes_eq id (codes "ds64") || bytes_eq id (codes "JUNK")

-- the warnings with that of a chunk
abbrev pub chunk_warned : List Warning → Entry → List Warning
chunk_warned ws e = warned ws (not (is_carried e.id)) (ChunkLeftOut e)

-- an extensible format says which speakers its channels are for: a mask of 0 says nothing
abbrev pub has_mask : FileNotes → Bool
has_mask n =
    (n.report.fmt.tag == extensible)
    && (nat_le 8 (length n.extension) && not (u32_at n.extension 4 == 0))

-- the warnings of what isn't a chunk: the texts by tag, the history, the cue points, the mask
abbrev pub content_warnings : FileNotes → Outline → List Warning
content_warnings n r =
    let texts = texts_warned [] 1 (bext_texts n.report.bext) in
    let history = history_warned texts n.history in
    let lost = length n.report.cues - length r.markers in
    let cues = warned history (nat_lt 0 lost) (CuesLeftOut lost) in
    warned cues (has_mask n) MaskLeftOut

-- all warnings of a recording, the chunks at last
abbrev pub warnings_of : FileNotes → Outline → List Warning
warnings_of n r = fold chunk_warned (content_warnings n r) n.report.chunks
