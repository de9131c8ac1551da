-- The header is the prefix of the file.
use Rattle.std.proofs.Common.{◌≡◌, ℕ, ◌+◌, ◌*◌, Bool, true, false, cond, List, [], ◌∷◌, ◌++◌, length, refl, sym, ◌∙◌}
use Rattle.std.proofs.Common.{ap, arith, append_assoc, length-append}
use Rattle.std.specs.Prelude.{nat_le, codes, flat_map, ◌==◌}
use Rattle.std.proofs.lemmas.List.{append-nil}
use Rattle.std.proofs.lemmas.Bool.{ne_eqb, cond-false}
use Rattle.bw_model.specs.Bytes.{unsaid, even_up}
use Rattle.bw_model.specs.Take.{Format, AreFields}
use Rattle.bw_model.specs.Layout.{Chunk, head, chunk, chunk_sized, pad, bext_fixed, cue_content}
use Rattle.bw_model.specs.File.{file_with, form_of, form_len, form_size, header, data_place, junk_chunk, ds64_chunk}
use Rattle.bw_model.specs.File.{fmt_chunk, bext_chunk, data_chunk, chunks_after, cue_chunks, cues}
use Rattle.bw_model.specs.File.{EachFileHasItsHeader, HeadersReachTheData, FormSizesAreLengths}
use Rattle.bw_model.proofs.Widths.{length-bext_fixed, length-chunk_sized, length-cue_content}

length-bext : (fields : List (List ℕ)) (history : List ℕ) → AreFields fields →
    length (chunk (bext_chunk fields history)) ≡ 610 + even_up (length history)
length-bext fields history h =
    let n = length (bext_fixed fields ++ history) in
    let content : n ≡ 602 + length history =
    length-append (bext_fixed fields) history ∙ ap (λ (k : ℕ). k + length history) (length-bext_fixed fields h) in
    length-chunk_sized n (bext_chunk fields history) refl ∙ ap (λ (k : ℕ). 8 + even_up k) content ∙ omega arith

-- the bytes before the data, in both kinds of form
joined-header : (id : List ℕ) (size : ℕ) (first bext : List ℕ) (f : Format) (data_size : ℕ) → length id ≡ 4 →
    length first ≡ 36 →
    length (head id size ++ codes "WAVE" ++ first ++ (chunk (fmt_chunk f) ++ bext) ++ head (codes "data") data_size)
    ≡ 80 + length bext
joined-header id size first bext f data_size i l = simp length-append (omega (arith, i, l))

-- the data begin after the header
pub length-header : HeadersReachTheData
unfolding header
length-header f fields history data_len cue_count limit h = go (nat_le size limit)
  where
    size : ℕ
    size = form_size (length history) data_len cue_count

    bext : List ℕ
    bext = chunk (bext_chunk fields history)

    whole : 80 + length bext ≡ data_place (length history)
    whole = let l = length-bext fields history h in omega (arith, l)

    go : (v : Bool) → length (cond v
        (head (codes "RIFF") size ++ codes "WAVE" ++ chunk junk_chunk ++ (chunk (fmt_chunk f) ++ bext)
        ++ head (codes "data") data_len)
        (head (codes "BW64") unsaid ++ codes "WAVE" ++ chunk (ds64_chunk size data_len)
        ++ (chunk (fmt_chunk f) ++ bext) ++ head (codes "data") unsaid))
        ≡ data_place (length history)
    go true = joined-header (codes "RIFF") size (chunk junk_chunk) bext f data_len refl refl ∙ whole
    go false = joined-header (codes "BW64") unsaid (chunk (ds64_chunk size data_len)) bext f unsaid refl refl ∙ whole

length-cue_chunks : (markers : List (ℕ × ℕ)) →
    length (flat_map chunk (cue_chunks markers)) ≡ cond (length markers == 0) 0 (12 + 24 * length markers)
length-cue_chunks [] = refl
length-cue_chunks (m ∷ ms) =
    let content = length-cue_content (m ∷ ms) in
    let n = length (cue_content (m ∷ ms)) in
    let some : (length (m ∷ ms) == 0) ≡ false = ne_eqb (length (m ∷ ms)) 0 (λ e. omega (arith, e)) in
    ap length (append-nil (chunk (cue_chunk (m ∷ ms)))) ∙ length-chunk_sized n (cue_chunk (m ∷ ms)) refl
    ∙ ap (λ (k : ℕ). 8 + even_up k) content
    ∙ omega arith ∙ sym (cond-false (length (m ∷ ms) == 0) 0 (12 + 24 * length (m ∷ ms)) some)
  where
    cue_chunk : List (ℕ × ℕ) → Chunk
    cue_chunk markers = record { id = codes "cue "; content = cue_content markers }

joined-form : (wave first fmt bext data_bytes following : List ℕ) → length wave ≡ 4 → length first ≡ 36 → length fmt ≡ 24 →
    length (wave ++ first ++ (fmt ++ (bext ++ [])) ++ data_bytes ++ following)
    ≡ 64 + length bext + length data_bytes + length following
joined-form wave first fmt bext data_bytes following k l m = simp (length-append, append-nil) (omega (arith, k, l, m))

-- the form size is the length of what follows it
pub form_len-form_size : FormSizesAreLengths
unfolding form_len form_of
form_len-form_size f t h =
    let n = length t.samples in
    let bext = length-bext t.fields t.history h in
    let data_bytes = length-chunk_sized n (data_chunk t.samples) refl in
    let following = length-cue_chunks (cues t.closed t.markers) in
    joined-form (codes "WAVE") (chunk junk_chunk) (chunk (fmt_chunk f)) (chunk (bext_chunk t.fields t.history))
    (chunk_sized n (data_chunk t.samples)) (flat_map chunk (chunks_after t)) refl refl refl
    ∙ omega (arith, bext, data_bytes, following)

header-joined : (outer wave first fmt bext data_head samples pad following : List ℕ) →
    outer ++ (wave ++ first ++ (fmt ++ (bext ++ [])) ++ (data_head ++ (samples ++ pad)) ++ following)
    ≡ (outer ++ wave ++ first ++ (fmt ++ bext) ++ data_head) ++ samples ++ pad ++ following
header-joined outer wave first fmt bext data_head samples pad following = simp (append_assoc, append-nil)

-- the header, the data, their pad byte and the cue points are the file
pub header_of_file : EachFileHasItsHeader
unfolding file_with form_of header
header_of_file f t limit h = ap with_size (form_len-form_size f t h) ∙ go (nat_le size limit)
  where
    size : ℕ
    size = form_size (length t.history) (length t.samples) (length (cues t.closed t.markers))

    n : ℕ
    n = length t.samples

    riff : ℕ → List ℕ
    riff s = head (codes "RIFF") s ++ form_of f t junk_chunk n

    wide : ℕ → List ℕ
    wide s = head (codes "BW64") unsaid ++ form_of f t (ds64_chunk s n) unsaid

    with_size : ℕ → List ℕ
    with_size s = cond (nat_le s limit) (riff s) (wide s)

    prefix : List ℕ → Chunk → ℕ → List ℕ
    prefix outer first data_size =
        outer ++ codes "WAVE" ++ chunk first ++ (chunk (fmt_chunk f) ++ chunk (bext_chunk t.fields t.history))
        ++ head (codes "data") data_size

    rest : List ℕ → List ℕ
    rest header = header ++ t.samples ++ pad n ++ flat_map chunk (chunks_after t)

    joined : (outer : List ℕ) (first : Chunk) (data_size : ℕ) →
        outer ++ form_of f t first data_size ≡ rest (prefix outer first data_size)
    joined outer first data_size =
        header-joined outer (codes "WAVE") (chunk first) (chunk (fmt_chunk f)) (chunk (bext_chunk t.fields t.history))
        (head (codes "data") data_size) t.samples (pad n) (flat_map chunk (chunks_after t))

    go : (v : Bool) → cond v (riff size) (wide size)
        ≡ rest (cond v (prefix (head (codes "RIFF") size) junk_chunk n)
        (prefix (head (codes "BW64") unsaid) (ds64_chunk size n) unsaid))
    go true = joined (head (codes "RIFF") size) junk_chunk n
    go false = joined (head (codes "BW64") unsaid) (ds64_chunk size n) unsaid
