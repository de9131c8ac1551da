-- LEFT as it is put together.
use Rattle.std.proofs.Common.{◌≡◌, ◌∙◌, ℕ, ◌+◌, ◌^◌, ◌≤◌, Bool, true, false, List, [], ◌∷◌, ◌++◌}
use Rattle.std.proofs.Common.{length, length-drop, take, drop, refl, sym, ap, arith}
use Rattle.std.specs.Prelude.{not, ◌&&◌, ◌||◌, nat_le, nat_lt, flat_map, codes}
use Rattle.std.specs.List.{filter, list_any}
use Rattle.std.proofs.lemmas.Bool.{leb-true}
use Rattle.std.proofs.lemmas.List.{append_assoc, drop-append-le, length-append, take-append-le}
use Rattle.bw_model.specs.Bytes.{le32, zeros}
use Rattle.bw_model.specs.Reading.{Entry, form_at, form_end, id_at, is_id, is_riff, is_wide, outer}
use Rattle.bw_model.proofs.BookLemmas.{same_name}
use Rattle.bw_model.proofs.EndLaws.{readings}
use Rattle.bw_inspect.specs.Readings.{HasReading}
use Rattle.bw_repair.specs.ChunkSections.{AreLeft, chunk_sections, left_sections}
use Rattle.bw_repair.specs.Forms.{unnamed}
use Rattle.bw_repair.specs.LeftOut.{chunk_whole, fits_left, is_kept_chunk, is_too_large, left_file, left_size, whole_lens}
use Rattle.bw_repair.specs.SectionBytes.{assembled, padded_range}
use Rattle.bw_repair.specs.declared.left_out.section.Section.{Section}
use Rattle.bw_repair.proofs.LeftLaws.{Apart, apart_of, chunks_are, chunks_length, filtered}
use Rattle.bw_repair.proofs.Leftovers.{long_enough, third_line}

-- the chunks of a reading are whole, each after the one before
pub apart : (b : List ℕ) (r : HasReading b) → form_end r.form ≤ 8 + 2 ^ 62 → Apart b 12 r.entries
apart b r near = apart_of b r.form 12 r.entries near ((readings b r.form r.entries).0 r.reads).0.chunks

-- the type that follows the size
wave : (b : List ℕ) (r : HasReading b) → padded_range 8 4 b ≡ codes "WAVE"
unfolding outer
wave b r =
    let named : not (is_id (id_at b 8) (codes "WAVE")) ≡ false =
    third_line (nat_lt (length b) 12) (not (is_riff b || is_wide b)) (not (is_id (id_at b 8) (codes "WAVE"))) _
    (form_at b) r.form _ _ _ r.reads.prefix.header in
    let long : 12 ≤ length b = long_enough b r in
    let x = drop 8 b in
    let eight : 8 ≤ length b = omega (arith, long) in
    let four : 4 ≤ length x = omega (arith, long, length-drop 8 b) in
    ap (take 4) (drop-append-le 8 b (0 ∷ []) eight) ∙ take-append-le 4 x (0 ∷ []) four
    ∙ same_name (id_at b 8) (codes "WAVE") (not_not (is_id (id_at b 8) (codes "WAVE")) named)
  where
    not_not : (v : Bool) → not v ≡ false → v ≡ true
    not_not true e = refl
    not_not false e = absurd (cc)

-- the last chunk, which is empty
last_chunk : (x : List ℕ) →
    assembled (record { front = codes "data" ++ le32 0; gap = 0; size = 0 } ∷ []) x ≡ codes "data" ++ le32 0
last_chunk x = refl

-- LEFT's sections are LEFT but for its id
pub left_are : (b : List ℕ) (r : HasReading b) (es : List Entry) (size : ℕ) → r.form.size ≤ 2 ^ 62 →
    es ≡ filter is_kept_chunk r.entries → size ≡ left_size r.entries → fits_left r.entries ≡ true →
    AreLeft b (left_sections es size)
left_are b r es size small same sized fit =
    let near : form_end r.form ≤ 8 + 2 ^ 62 = omega (arith, small) in
    let kept = filter is_kept_chunk r.entries in
    let s = left_size r.entries in
    let chunks = flat_map (chunk_whole b) kept in
    let tail = codes "data" ++ le32 0 in
    let ts : List Section = record { front = tail; gap = 0; size = 0 } ∷ [] in
    let body : assembled (chunk_sections 12 kept ++ ts) (drop 12 b) ≡ chunks ++ tail =
    chunks_are b 12 kept ts tail (filtered is_kept_chunk b 12 r.entries (apart b r near)) last_chunk in
    let built : assembled (left_sections kept s) b ≡
    (zeros 4 ++ le32 s) ++ (codes "WAVE" ++ (chunks ++ tail)) =
    ap (λ (z : List ℕ). (zeros 4 ++ le32 s) ++ (z ++ assembled (chunk_sections 12 kept ++ ts) (drop 12 b))) (wave b r)
    ∙ ap (λ (z : List ℕ). (zeros 4 ++ le32 s) ++ (codes "WAVE" ++ z)) body in
    let spelled : le32 s ++ (codes "WAVE" ++ (chunks ++ tail)) ≡
    (((le32 s ++ codes "WAVE") ++ chunks) ++ codes "data") ++ le32 0 =
    sym (append_assoc (le32 s) (codes "WAVE") (chunks ++ tail))
    ∙ sym (append_assoc (le32 s ++ codes "WAVE") chunks tail)
    ∙ sym (append_assoc ((le32 s ++ codes "WAVE") ++ chunks) (codes "data") (le32 0)) in
    record {
      reading_is = r;
      small = small;
      fits = fit;
      are = ap (λ (x : List Entry). assembled (left_sections x size) b) same
          ∙ ap (λ (n : ℕ). assembled (left_sections kept n) b) sized ∙ built
          ∙ ap (λ (z : List ℕ). 0 ∷ 0 ∷ 0 ∷ 0 ∷ z) spelled;
    }

-- LEFT is no longer than a RIFF file can be
both : (v w : Bool) → v && w ≡ true → v ≡ true
both true w e = refl
both false w e = e

pub left_length : (b : List ℕ) (r : HasReading b) → r.form.size ≤ 2 ^ 62 → fits_left r.entries ≡ true →
    length (unnamed (left_file b r.entries)) ≤ 2 ^ 62
left_length b r small fit =
    let kept = filter is_kept_chunk r.entries in
    let near : form_end r.form ≤ 8 + 2 ^ 62 = omega (arith, small) in
    let short : 12 + whole_lens kept ≤ 4294967294 =
    leb-true (12 + whole_lens kept) 4294967294
    (both (nat_le (12 + whole_lens kept) 4294967294) (not (list_any is_too_large kept)) fit) in
    let chunks = flat_map (chunk_whole b) kept in
    let head = (codes "RIFF" ++ le32 (left_size r.entries)) ++ codes "WAVE" in
    let bytes : length chunks ≤ whole_lens kept =
    chunks_length b 12 kept (filtered is_kept_chunk b 12 r.entries (apart b r near)) in
    let first : length head ≡ 12 = refl in
    let second : length (head ++ chunks) ≡ length head + length chunks = length-append head chunks in
    let third : length ((head ++ chunks) ++ codes "data") ≡ length (head ++ chunks) + 4 =
    length-append (head ++ chunks) (codes "data") in
    let all : length (unnamed (left_file b r.entries)) ≡ length ((head ++ chunks) ++ codes "data") + 4 =
    length-append ((head ++ chunks) ++ codes "data") (le32 0) in
    omega (arith, short, bytes, first, second, third, all)
