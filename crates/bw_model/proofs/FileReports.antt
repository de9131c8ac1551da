-- The report of a take's file gives the take.
use Rattle.std.proofs.Common.{◌≡◌, ℕ, ◌+◌, ◌-◌, ◌*◌, ◌≤◌, Bool, true, false, cond, List, [], ◌∷◌, ◌++◌, length, Option}
use Rattle.std.proofs.Common.{Some, refl, sym, ◌∙◌, ap, arith}
use Rattle.std.specs.Prelude.{codes, map, slice_range, unwrap_or, option_map, IsTrue}
use Rattle.std.specs.List.{list_all}
use Rattle.bw_model.specs.Bytes.{even_up, u32_at}
use Rattle.bw_model.specs.Take.{Format, Take}
use Rattle.bw_model.specs.Layout.{Chunk, bext_fixed, cue_content}
use Rattle.bw_model.specs.File.{file_with, form_len, fmt_chunk, bext_chunk, cue_chunks, cues}
use Rattle.bw_model.specs.File.{data_place}
use Rattle.bw_model.specs.Reading.{Entry, Form, entry_of, is_id}
use Rattle.bw_model.specs.Report.{RawFmt, RawBext, RawCue, Report, report_of, content_of, raw_fmt, raw_bext, raw_cues}
use Rattle.bw_model.specs.ReadBack.{IsWithinLimits, FilesReadBack, read_form, read_chunks, read_cues, reported_fmt}
use Rattle.bw_model.specs.ReadBack.{reported_bext, reported_cue, reported_report, is_marker}
use Rattle.bw_model.proofs.Widths.{length-cue_content}
use Rattle.bw_model.proofs.StandingChunks.{StandsAt, AllStand, content-whole}
use Rattle.bw_model.proofs.FilePieces.{own, pieces, listed, length-bext_content}
use Rattle.bw_model.proofs.OwnForms.{IsOwnForm, bytes_of, own_stand}
use Rattle.bw_model.proofs.RawContents.{raw-fmt, raw-cues}
use Rattle.bw_model.proofs.RawBexts.{raw-bext}
use Rattle.bw_model.proofs.FileReads.{file_reads, in_own_form}

-- a chunk's bytes, at its place and with its size in other words
content-at : (b : List ℕ) (p q n : ℕ) (c : Chunk) → StandsAt b p (own c) → length c.id ≡ 4 → p ≡ q →
    length c.content ≡ n → slice_range b (q + 8) (q + 8 + n) ≡ c.content
content-at b p q n c s l place size =
    ap (λ (m : ℕ). slice_range b (q + 8) (q + 8 + m)) (sym size)
    ∙ ap (λ (r : ℕ). slice_range b (r + 8) (r + 8 + length c.content)) (sym place)
    ∙ content-whole b p (own c) s l

-- the cue points from a place on
cues-reported : (b : List ℕ) (p q : ℕ) (markers : List (ℕ × ℕ)) → AllStand b p (map own (cue_chunks markers)) → p ≡ q →
    length markers ≤ 1024 → IsTrue (list_all is_marker markers) →
    raw_cues (content_of b (entry_of (codes "cue ") (read_cues q markers))) 4
    (u32_at (content_of b (entry_of (codes "cue ") (read_cues q markers))) 0) ≡ map reported_cue markers
cues-reported b p q [] s place few h = refl
cues-reported b p q (m ∷ ms) s place few h =
    ap (λ (c : List ℕ). raw_cues c 4 (u32_at c 0))
    (content-at b p q (4 + 24 * length (m ∷ ms))
    (record { id = codes "cue "; content = cue_content (m ∷ ms) }) s.0 refl place (length-cue_content (m ∷ ms)))
    ∙ raw-cues (m ∷ ms) (omega arith) h

-- what is reported of a take's file in a form, with these chunks
abbrev reported_in : Format → Take → Form → List Entry → Report
reported_in f t form chunks = record {
  form = form.id;
  size = form_len f t;
  chunks = chunks;
  fmt = reported_fmt f;
  data_at = data_place (length t.history);
  data_size = length t.samples;
  bext = Some (reported_bext t.fields, length t.history);
  cues = map reported_cue (cues t.closed t.markers);
}

-- the report, if the chunks are in one of the two forms
report-own : (f : Format) (t : Take) (outer : List ℕ) (first : Chunk) (data_size : ℕ) (form : Form) →
    length outer ≡ 8 → IsWithinLimits f t →
    IsOwnForm f t first data_size form (bytes_of outer f t first data_size) →
    report_of (bytes_of outer f t first data_size) form (listed first.id t)
    ≡ reported_in f t form (listed first.id t)
unfolding report_of
report-own f t outer first data_size form eight within h =
    ap (λ (e : Option Entry). by_entries e (entry_of (codes "bext") es) (entry_of (codes "data") es)
    (entry_of (codes "cue ") es)) (skip (codes "fmt ") h.fmt)
    ∙ ap (λ (e : Option Entry). by_entries (Some fmt_entry) e (entry_of (codes "data") es)
    (entry_of (codes "cue ") es)) (skip (codes "bext") h.bext)
    ∙ ap (λ (e : Option Entry). by_entries (Some fmt_entry) (Some bext_entry) e (entry_of (codes "cue ") es))
    (skip (codes "data") h.samples)
    ∙ ap (by_entries (Some fmt_entry) (Some bext_entry) (Some data_entry)) (skip (codes "cue ") h.cue)
    ∙ ap (λ (n : ℕ). made n (raw_fmt (content_of b (Some fmt_entry))) (d_place + 8)
    (raw_bext (content_of b (Some bext_entry))) (602 + length t.history - 602) (raw_cues cue 4 (u32_at cue 0))) h.size
    ∙ ap (λ (x : RawFmt). made (form_len f t) x (d_place + 8) (raw_bext (content_of b (Some bext_entry)))
    (602 + length t.history - 602) (raw_cues cue 4 (u32_at cue 0))) fmt_reported
    ∙ ap (λ (n : ℕ). made (form_len f t) (reported_fmt f) n (raw_bext (content_of b (Some bext_entry)))
    (602 + length t.history - 602) (raw_cues cue 4 (u32_at cue 0))) place
    ∙ ap (λ (x : RawBext). made (form_len f t) (reported_fmt f) (data_place (length t.history)) x
    (602 + length t.history - 602) (raw_cues cue 4 (u32_at cue 0))) bext_reported
    ∙ ap (λ (n : ℕ). made (form_len f t) (reported_fmt f) (data_place (length t.history)) (reported_bext t.fields) n
    (raw_cues cue 4 (u32_at cue 0))) history
    ∙ ap (made (form_len f t) (reported_fmt f) (data_place (length t.history)) (reported_bext t.fields) (length t.history))
    cues_are
  where
    b : List ℕ
    b = bytes_of outer f t first data_size

    es : List Entry
    es = listed first.id t

    d_place : ℕ
    d_place = 682 + even_up (length t.history)

    fmt_entry : Entry
    fmt_entry = record { id = codes "fmt "; place = 48; size = 16 }

    bext_entry : Entry
    bext_entry = record { id = codes "bext"; place = 72; size = 602 + length t.history }

    data_entry : Entry
    data_entry = record { id = codes "data"; place = d_place; size = length t.samples }

    following : List Entry
    following = read_cues (data_place (length t.history) + even_up (length t.samples)) (cues t.closed t.markers)

    cue : List ℕ
    cue = content_of b (entry_of (codes "cue ") following)

    made : ℕ → RawFmt → ℕ → RawBext → ℕ → List RawCue → Report
    made size fmt at bext history cues =
        record {
          form = form.id;
          size = size;
          chunks = es;
          fmt = fmt;
          data_at = at;
          data_size = length t.samples;
          bext = Some (bext, history);
          cues = cues;
        }

    by_entries : Option Entry → Option Entry → Option Entry → Option Entry → Report
    by_entries fmt bext samples cue = record {
      form = form.id;
      size = form.size;
      chunks = es;
      fmt = raw_fmt (content_of b fmt);
      data_at = unwrap_or (option_map (λ (e : Entry). e.place + 8) samples) 0;
      data_size = unwrap_or (option_map (λ (e : Entry). e.size) samples) 0;
      bext = option_map (λ (e : Entry). (raw_bext (content_of b bext), e.size - 602)) bext;
      cues = raw_cues (content_of b cue) 4 (u32_at (content_of b cue) 0);
    }

    skip : (want : List ℕ) → is_id first.id want ≡ false →
        entry_of want es ≡ entry_of want (fmt_entry ∷ bext_entry ∷ data_entry ∷ following)
    skip want other = ap (λ (v : Bool). cond v (Some (record { id = first.id; place = 12; size = 28 }))
        (entry_of want (fmt_entry ∷ bext_entry ∷ data_entry ∷ following))) other

    all : AllStand b 12 (pieces f t first data_size)
    all = own_stand f t outer first data_size form eight within h

    long : length first.content ≡ 28
    long = h.long

    bext_size : length (bext_fixed t.fields ++ t.history) ≡ 602 + length t.history
    bext_size = length-bext_content t.fields t.history within.fields

    fmt_reported : raw_fmt (content_of b (Some fmt_entry)) ≡ reported_fmt f
    fmt_reported = ap raw_fmt (content-at b (12 + 8 + even_up (length first.content)) 48 16 (fmt_chunk f) all.1.0 refl
        (omega (arith, long)) refl) ∙ raw-fmt f within.format

    bext_reported : raw_bext (content_of b (Some bext_entry)) ≡ reported_bext t.fields
    bext_reported =
        ap raw_bext (content-at b (12 + 8 + even_up (length first.content) + 8 + even_up 16) 72
        (602 + length t.history) (bext_chunk t.fields t.history) all.1.1.0 refl (omega (arith, long)) bext_size)
        ∙ raw-bext t.fields t.history within.fields

    place : d_place + 8 ≡ data_place (length t.history)
    place = omega arith

    history : 602 + length t.history - 602 ≡ length t.history
    history = omega arith

    few : (closed : Bool) → length (cues closed t.markers) ≤ 1024
    few true = within.markers
    few false = omega arith

    numbers : (closed : Bool) → IsTrue (list_all is_marker (cues closed t.markers))
    numbers true = within.numbers
    numbers false = refl

    cues_are : raw_cues cue 4 (u32_at cue 0) ≡ map reported_cue (cues t.closed t.markers)
    cues_are = cues-reported b (12 + 8 + even_up (length first.content) + 8 + even_up 16 + 8
        + even_up (length (bext_fixed t.fields ++ t.history)) + 8 + even_up (length t.samples))
        (data_place (length t.history) + even_up (length t.samples)) (cues t.closed t.markers) all.1.1.1.1
        (omega (arith, long, bext_size)) (few t.closed) (numbers t.closed)

-- the report of the file, in either kind of form
file_report : (f : Format) (t : Take) (limit : ℕ) → IsWithinLimits f t → limit ≤ 4294967294 →
    report_of (file_with f t limit) (read_form f t limit) (read_chunks f t limit) ≡ reported_report f t limit
file_report f t limit within below =
    in_own_form (λ b form chunks. report_of b form chunks ≡ reported_in f t form chunks) f t limit within below
    (λ outer first data_size form eight own. report-own f t outer first data_size form eight within own)

pub reads_back : FilesReadBack
reads_back f t limit within below =
    record { reading = file_reads f t limit within below; report = file_report f t limit within below }
