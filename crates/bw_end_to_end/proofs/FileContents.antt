-- What a take's file has of a recording: the notes of its reading, and its samples.
use Rattle.std.proofs.Common.{◌≡◌, ℕ, ◌+◌, ◌-◌, ◌≤◌, Bool, true, false, cond, List, [], ◌∷◌, ◌++◌, length, take, Option}
use Rattle.std.proofs.Common.{Some, refl, sym, ◌∙◌, ap, arith, append_assoc, length-append}
use Rattle.std.specs.Prelude.{codes, flat_map, nat_le, slice_range, min}
use Rattle.std.proofs.lemmas.List.{take_all, drop_at}
use Rattle.bw_model.specs.Bytes.{even_up, unsaid}
use Rattle.bw_model.specs.Take.{Format, Take}
use Rattle.bw_model.specs.Layout.{head, chunk, pad, bext_fixed}
use Rattle.bw_model.specs.File.{file_with, header, form_size, fmt_chunk, bext_chunk, junk_chunk, ds64_chunk}
use Rattle.bw_model.specs.File.{chunks_after, cues, data_place}
use Rattle.bw_model.specs.Reading.{Entry, entry_of}
use Rattle.bw_model.specs.ReadBack.{IsWithinLimits, ReadsBack, read_form, read_chunks, read_cues, reported_report}
use Rattle.bw_model.specs.ReadBack.{is_narrow}
use Rattle.bw_model.specs.Report.{Report}
use Rattle.bw_model.proofs.HeaderLaws.{header_of_file, length-header}
use Rattle.bw_model.proofs.StandingChunks.{range-whole}
use Rattle.bw_model.proofs.Widths.{length-bext_fixed}
use Rattle.bw_plan.specs.Recordings.{FileNotes, notes_of, extension_at, history_at}

-- the bytes after the data's head
abbrev rest_of : Take → List ℕ
rest_of t = pad (length t.samples) ++ flat_map chunk (chunks_after t)

abbrev header_for : Format → Take → ℕ → List ℕ
header_for f t limit =
    header f t.fields t.history (length t.samples) (length (cues t.closed t.markers)) limit

file_parts : (f : Format) (t : Take) (limit : ℕ) → IsWithinLimits f t →
    file_with f t limit ≡ header_for f t limit ++ (t.samples ++ rest_of t)
file_parts f t limit within =
    header_of_file f t limit within.fields
    ∙ joined (header_for f t limit) t.samples (pad (length t.samples)) (flat_map chunk (chunks_after t))
  where
    joined : (a b c d : List ℕ) → a ++ b ++ c ++ d ≡ a ++ (b ++ (c ++ d))
    joined a b c d = simp append_assoc

-- the samples stand after the header
pub samples_stand : (f : Format) (t : Take) (limit : ℕ) → IsWithinLimits f t →
    slice_range (file_with f t limit) (data_place (length t.history)) (data_place (length t.history) + length t.samples)
    ≡ t.samples
samples_stand f t limit within =
    let place : ℕ = data_place (length t.history) in
    ap (λ (z : List ℕ). slice_range z place (place + length t.samples)) (file_parts f t limit within)
    ∙ range-whole (header_for f t limit) t.samples (rest_of t) place (length t.samples)
    (sym (length-header f t.fields t.history (length t.samples) (length (cues t.closed t.markers)) limit within.fields))
    refl

-- What stands in `bext`.

abbrev content : Take → List ℕ
content t = bext_fixed t.fields ++ t.history

-- the bytes before the content of `bext`, and those after it
record HasContent (b c : List ℕ) : Type 0 where
  before : List ℕ
  after : List ℕ
  place : 80 ≡ length before
  bytes : b ≡ before ++ (c ++ after)

has_content : (f : Format) (t : Take) (limit : ℕ) → HasContent (header_for f t limit) (content t)
unfolding header
has_content f t limit = go (nat_le size limit)
  where
    size : ℕ
    size = form_size (length t.history) (length t.samples) (length (cues t.closed t.markers))

    n : ℕ
    n = length (content t)

    joined : (outer wave first fmt bext c p data_head : List ℕ) →
        outer ++ wave ++ first ++ (fmt ++ (bext ++ (c ++ p))) ++ data_head
        ≡ (outer ++ (wave ++ (first ++ (fmt ++ bext)))) ++ (c ++ (p ++ data_head))
    joined outer wave first fmt bext c p data_head = simp append_assoc

    long : (outer wave first fmt bext : List ℕ) → length outer ≡ 8 → length wave ≡ 4 → length first ≡ 36 →
        length fmt ≡ 24 → length bext ≡ 8 → 80 ≡ length (outer ++ (wave ++ (first ++ (fmt ++ bext))))
    long outer wave first fmt bext a b c d e = simp length-append (omega (arith, a, b, c, d, e))

    go : (v : Bool) → HasContent (cond v
        (head (codes "RIFF") size ++ codes "WAVE" ++ chunk junk_chunk
        ++ (chunk (fmt_chunk f) ++ chunk (bext_chunk t.fields t.history)) ++ head (codes "data") (length t.samples))
        (head (codes "BW64") unsaid ++ codes "WAVE" ++ chunk (ds64_chunk size (length t.samples))
        ++ (chunk (fmt_chunk f) ++ chunk (bext_chunk t.fields t.history)) ++ head (codes "data") unsaid)) (content t)
    go true = record {
      before = head (codes "RIFF") size ++ (codes "WAVE" ++ (chunk junk_chunk ++ (chunk (fmt_chunk f) ++ head
          (codes "bext") n)));
      after = pad n ++ head (codes "data") (length t.samples);
      place = long (head (codes "RIFF") size) (codes "WAVE") (chunk junk_chunk) (chunk (fmt_chunk f)) (head
          (codes "bext") n)
          refl refl refl refl refl;
      bytes = joined (head (codes "RIFF") size) (codes "WAVE") (chunk junk_chunk) (chunk (fmt_chunk f)) (head
          (codes "bext") n)
          (content t) (pad n) (head (codes "data") (length t.samples));
    }
    go false = record {
      before = head (codes "BW64") unsaid
          ++ (codes "WAVE" ++ (chunk (ds64_chunk size (length t.samples)) ++ (chunk (fmt_chunk f) ++ head
          (codes "bext") n)));
      after = pad n ++ head (codes "data") unsaid;
      place = long (head (codes "BW64") unsaid) (codes "WAVE") (chunk (ds64_chunk size (length t.samples))) (chunk
          (fmt_chunk f))
          (head (codes "bext") n) refl refl refl refl refl;
      bytes = joined (head (codes "BW64") unsaid) (codes "WAVE") (chunk (ds64_chunk size (length t.samples))) (chunk
          (fmt_chunk f))
          (head (codes "bext") n) (content t) (pad n) (head (codes "data") unsaid);
    }

content-stands : (f : Format) (t : Take) (limit : ℕ) → IsWithinLimits f t →
    slice_range (file_with f t limit) 80 (80 + (602 + length t.history)) ≡ content t
content-stands f t limit within =
    let h = has_content f t limit in
    let rest : List ℕ = t.samples ++ rest_of t in
    let whole : file_with f t limit ≡ h.before ++ (content t ++ (h.after ++ rest)) =
    file_parts f t limit within ∙ ap (λ (z : List ℕ). z ++ rest) h.bytes ∙ joined h.before (content t) h.after rest in
    let long : 602 + length t.history ≡ length (content t) =
    let l = length-bext_fixed t.fields within.fields in
    let m = length-append (bext_fixed t.fields) t.history in omega (arith, l, m) in
    ap (λ (z : List ℕ). slice_range z 80 (80 + (602 + length t.history))) whole
    ∙ range-whole h.before (content t) (h.after ++ rest) 80 (602 + length t.history) h.place long
  where
    joined : (a b c d : List ℕ) → (a ++ (b ++ c)) ++ d ≡ a ++ (b ++ (c ++ d))
    joined a b c d = simp append_assoc

-- the history follows the fixed fields
history_after : (fixed history : List ℕ) (m : ℕ) → length fixed ≡ 602 → length history ≤ m →
    slice_range (fixed ++ history) 602 (602 + m) ≡ history
history_after fixed history m long short =
    ap (λ (z : List ℕ). take (602 + m - 602) z) (drop_at fixed history 602 long)
    ∙ take_all (602 + m - 602) history (omega (arith, short))

-- The notes.

abbrev fmt_entry : Entry
fmt_entry = record { id = codes "fmt "; place = 48; size = 16 }

abbrev bext_entry : ℕ → Entry
bext_entry n = record { id = codes "bext"; place = 72; size = 602 + n }

-- the chunks after the first one
abbrev entries_after : Bool → ℕ → List Entry → List Entry
entries_after narrow n more =
    record { id = cond narrow (codes "JUNK") (codes "ds64"); place = 12; size = 28 }
    ∷ fmt_entry ∷ bext_entry n ∷ more

fmt_found : (narrow : Bool) (n : ℕ) (more : List Entry) →
    entry_of (codes "fmt ") (entries_after narrow n more) ≡ Some fmt_entry
fmt_found true n more = refl
fmt_found false n more = refl

bext_found : (narrow : Bool) (n : ℕ) (more : List Entry) →
    entry_of (codes "bext") (entries_after narrow n more) ≡ Some (bext_entry n)
bext_found true n more = refl
bext_found false n more = refl

abbrev more_entries : Take → List Entry
more_entries t =
    record { id = codes "data"; place = 682 + even_up (length t.history); size = length t.samples }
    ∷ read_cues (data_place (length t.history) + even_up (length t.samples)) (cues t.closed t.markers)

history_read : (f : Format) (t : Take) (limit : ℕ) → IsWithinLimits f t →
    history_at (file_with f t limit) (Some (bext_entry (length t.history))) ≡ t.history
history_read f t limit within =
    let n : ℕ = length t.history in
    let m : ℕ = min (602 + n - 602) 4097 in
    let short : n ≤ 4096 = within.history in
    let enough : n ≤ m = omega (arith, short) in
    ap (λ (z : List ℕ). slice_range z 602 (602 + m)) (content-stands f t limit within)
    ∙ history_after (bext_fixed t.fields) t.history m (length-bext_fixed t.fields within.fields) enough

-- what is noted of a file
abbrev pub notes_with : Report → List ℕ → List ℕ → FileNotes
notes_with report extension history =
    record { report = report; extension = extension; history = history }

pub file_notes : (f : Format) (t : Take) (limit : ℕ) → IsWithinLimits f t → ReadsBack f t limit →
    notes_of (file_with f t limit) (read_form f t limit) (read_chunks f t limit)
    ≡ notes_with (reported_report f t limit) [] t.history
file_notes f t limit within back =
    let b : List ℕ = file_with f t limit in
    let n : ℕ = length t.history in
    let es : List Entry = read_chunks f t limit in
    ap (λ (r : Report). notes_with r (extension_at b (entry_of (codes "fmt ") es)) (history_at b (entry_of
    (codes "bext") es)))
    back.report
    ∙ ap (λ (e : Option Entry). notes_with (reported_report f t limit) (extension_at b e) (history_at b (entry_of
    (codes "bext") es)))
    (fmt_found (is_narrow f t limit) n (more_entries t))
    ∙ ap (λ (e : Option Entry). notes_with (reported_report f t limit) [] (history_at b e))
    (bext_found (is_narrow f t limit) n (more_entries t))
    ∙ ap (notes_with (reported_report f t limit) []) (history_read f t limit within)
