-- Reading what was written gives it back.
use Rattle.std.proofs.Common.{◌≡◌, ℕ, ◌+◌, ◌*◌, ◌^◌, ◌<◌, ◌≤◌, List, [], ◌∷◌, ◌++◌, length, map, refl, ◌∙◌, ap, arith}
use Rattle.std.proofs.Common.{append_assoc, length-append}
use Rattle.std.specs.Prelude.{IsTrue, All, codes, flat_map, slice_range}
use Rattle.std.proofs.lemmas.Nat.{from_le_bytes-to_le_bytes_2, from_le_bytes-to_le_bytes_4, from_le_bytes-to_le_bytes_8}
use Rattle.std.proofs.lemmas.List.Elements.{All-head, All-tail}
use Rattle.std.specs.Int.{w32, w64, from_le_bytes}
use Rattle.bw_model.specs.Bytes.{le32, le64}
use Rattle.bw_model.specs.Take.{Format, block_align, is_format}
use Rattle.bw_model.specs.Layout.{cue_point}
use Rattle.bw_model.specs.Reading.{table_at}
use Rattle.bw_model.specs.Report.{RawFmt, RawCue, raw_cues}
use Rattle.bw_layout.specs.declared.chunk.ChunkHead.{ChunkHead}
use Rattle.bw_layout.specs.ReadBack.{HeadsReadBack, FormatsReadBack, EntriesReadBack, EachDs64ReadsBack}
use Rattle.bw_model.specs.ReadBack.{reported_cue}
use Rattle.bw_layout.specs.ReadBack.{CuePointsReadBack, EachCueChunkReadsBack, IsEntry, IsMarker}
use Rattle.bw_layout.specs.Tables.{Fixed, entry_bytes, entry_at, ds64_with_table}
use Rattle.bw_layout.proofs.JoinedRanges.{range_at_seam}

pub heads_read_back : HeadsReadBack
heads_read_back [] rest size four small = cc
heads_read_back (a ∷ []) rest size four small = absurd (omega arith)
heads_read_back (a ∷ b ∷ []) rest size four small = absurd (omega arith)
heads_read_back (a ∷ b ∷ c ∷ []) rest size four small = absurd (omega arith)
heads_read_back (a ∷ b ∷ c ∷ d ∷ []) rest size four small =
    ap (λ (n : ℕ). let head : ChunkHead = record { id = a ∷ b ∷ c ∷ d ∷ []; size32 = n } in head)
    (from_le_bytes-to_le_bytes_4 size small)
heads_read_back (a ∷ b ∷ c ∷ d ∷ e ∷ ids) rest size four small = absurd (omega arith)

-- the ranges of a format's numbers
record Ranges (f : Format) : Type 0 where
  rate : f.rate ≤ 768000
  channels : f.channels ≤ 64
  bits : f.bits ≤ 32

ranges : (f : Format) → IsTrue (is_format f) → Ranges f
ranges f h = record { rate = search arith; channels = grind arith; bits = grind arith }

same_numbers : (t t' c c' r r' y y' a a' b b' : ℕ) → t ≡ t' → c ≡ c' → r ≡ r' → y ≡ y' → a ≡ a' → b ≡ b' →
    let left : RawFmt = record { tag = t; channels = c; rate = r; bytes_per_second = y; align = a; bits = b } in
    let right : RawFmt = record { tag = t'; channels = c'; rate = r'; bytes_per_second = y'; align = a'; bits = b' } in
    left ≡ right
same_numbers t t' c c' r r' y y' a a' b b' te ce re ye ae be = cc

pub formats_read_back : FormatsReadBack
formats_read_back f rest h =
    let is = ranges f h in
    let align : block_align f ≤ 256 = grind arith in
    let second : f.rate * block_align f < 2 ^ 32 = grind arith in
    same_numbers _ 1 _ f.channels _ f.rate _ (f.rate * block_align f) _ (block_align f) _ f.bits
    refl (from_le_bytes-to_le_bytes_2 f.channels (omega arith)) (from_le_bytes-to_le_bytes_4 f.rate (omega arith))
    (from_le_bytes-to_le_bytes_4 (f.rate * block_align f) second)
    (from_le_bytes-to_le_bytes_2 (block_align f) (omega arith)) (from_le_bytes-to_le_bytes_2 f.bits (omega arith))

entry_read_back : (id rest : List ℕ) (size : ℕ) → length id ≡ 4 → size < 2 ^ 64 →
    entry_at ((id ++ le64 size) ++ rest) ≡ (id, size)
entry_read_back [] rest size four small = cc
entry_read_back (a ∷ []) rest size four small = absurd (omega arith)
entry_read_back (a ∷ b ∷ []) rest size four small = absurd (omega arith)
entry_read_back (a ∷ b ∷ c ∷ []) rest size four small = absurd (omega arith)
entry_read_back (a ∷ b ∷ c ∷ d ∷ []) rest size four small =
    ap (λ (n : ℕ). let entry : List ℕ × ℕ = (a ∷ b ∷ c ∷ d ∷ [], n) in entry) (from_le_bytes-to_le_bytes_8 size small)
entry_read_back (a ∷ b ∷ c ∷ d ∷ e ∷ ids) rest size four small = absurd (omega arith)

pub entries_read_back : EntriesReadBack
entries_read_back e rest is = entry_read_back e.0 rest e.1 is.id is.size

same_fixed : (f f' d d' n n' : ℕ) → f ≡ f' → d ≡ d' → n ≡ n' →
    let left : Fixed = record { form = f; data_size = d; table_len = n } in
    let right : Fixed = record { form = f'; data_size = d'; table_len = n' } in
    left ≡ right
same_fixed f f' d d' n n' fe de ne = cc

-- an entry after a prefix, of any four and any eight bytes
record EntryStep (prefix id size more : List ℕ) (p : ℕ) (b : List ℕ) : Type 0 where
  id-is : slice_range b p (p + 4) ≡ id
  size-is : slice_range b (p + 4) (p + 4 + 8) ≡ size
  next : b ≡ (prefix ++ (id ++ size)) ++ more
  next-place : length (prefix ++ (id ++ size)) ≡ p + 12

entry_step : (prefix id size es rest : List ℕ) (p : ℕ) → length prefix ≡ p → length id ≡ 4 → length size ≡ 8 →
    EntryStep prefix id size (es ++ rest) p (prefix ++ (((id ++ size) ++ es) ++ rest))
entry_step prefix id size es rest p place four eight =
    let at-id : prefix ++ (((id ++ size) ++ es) ++ rest) ≡ prefix ++ (id ++ (size ++ (es ++ rest))) = simp append_assoc in
    let at-size : prefix ++ (((id ++ size) ++ es) ++ rest) ≡ (prefix ++ id) ++ (size ++ (es ++ rest)) =
    simp append_assoc in
    record {
      id-is = ap (λ (b : List ℕ). slice_range b p (p + 4)) at-id
          ∙ range_at_seam prefix id (size ++ (es ++ rest)) p 4 place four;
      size-is = ap (λ (b : List ℕ). slice_range b (p + 4) (p + 4 + 8)) at-size
          ∙ range_at_seam (prefix ++ id) size (es ++ rest) (p + 4) 8 (length-append prefix id ∙ omega arith) eight;
      next = simp append_assoc;
      next-place = simp length-append (omega arith);
    }

same_entries : (i i' : List ℕ) (n n' : ℕ) (t t' : List (List ℕ × ℕ)) → i ≡ i' → n ≡ n' → t ≡ t' →
    (let e : List ℕ × ℕ = (i, n) in e ∷ t) ≡ (let e : List ℕ × ℕ = (i', n') in e ∷ t')
same_entries i i' n n' t t' ie ne te = cc

-- the table after a prefix
table_read_back : (table : List (List ℕ × ℕ)) (prefix rest : List ℕ) (p : ℕ) → length prefix ≡ p → All IsEntry table →
    table_at (prefix ++ (flat_map entry_bytes table ++ rest)) p (length table) ≡ table
table_read_back [] prefix rest p place entries = refl
table_read_back (e ∷ es) prefix rest p place entries =
    let is = All-head IsEntry e es entries in
    let step = entry_step prefix e.0 (le64 e.1) (flat_map entry_bytes es) rest p place is.id refl in
    same_entries _ e.0 _ e.1 _ es
    step.id-is (ap (from_le_bytes w64) step.size-is ∙ from_le_bytes-to_le_bytes_8 e.1 is.size)
    (ap (λ (b : List ℕ). table_at b (p + 12) (length es)) step.next
    ∙ table_read_back es (prefix ++ entry_bytes e) rest (p + 12) step.next-place (All-tail IsEntry e es entries))

pub ds64_reads_back : EachDs64ReadsBack
unfolding ds64_with_table
ds64_reads_back form data_size table rest form-fits data-fits table-fits entries =
    let prefix = le64 form ++ le64 data_size ++ le64 0 ++ le32 (length table) in
    record {
      fixed = same_fixed _ form _ data_size _ (length table) (from_le_bytes-to_le_bytes_8 form form-fits)
          (from_le_bytes-to_le_bytes_8 data_size data-fits) (from_le_bytes-to_le_bytes_4 (length table) table-fits);
      entries = ap (λ (b : List ℕ). table_at b 28 (length table))
          (append_assoc prefix (flat_map entry_bytes table) rest) ∙ table_read_back table prefix rest 28 refl entries;
    }

same_cue : (i i' p p' o o' : ℕ) → i ≡ i' → p ≡ p' → o ≡ o' →
    let left : RawCue = record { id = i; position = p; offset = o } in
    let right : RawCue = record { id = i'; position = p'; offset = o' } in
    left ≡ right
same_cue i i' p p' o o' ie pe oe = cc

pub cue_points_read_back : CuePointsReadBack
cue_points_read_back m rest is =
    same_cue _ m.0 _ m.1 _ m.1 (from_le_bytes-to_le_bytes_4 m.0 is.id) (from_le_bytes-to_le_bytes_4 m.1 is.frame)
    (from_le_bytes-to_le_bytes_4 m.1 is.frame)

-- a cue point after a prefix, of any pieces of four bytes
record PointStep (prefix a b c d e f more : List ℕ) (p : ℕ) (bytes : List ℕ) : Type 0 where
  id-is : slice_range bytes p (p + 4) ≡ a
  position-is : slice_range bytes (p + 4) (p + 4 + 4) ≡ b
  offset-is : slice_range bytes (p + 20) (p + 20 + 4) ≡ f
  next : bytes ≡ (prefix ++ (a ++ b ++ c ++ d ++ e ++ f)) ++ more
  next-place : length (prefix ++ (a ++ b ++ c ++ d ++ e ++ f)) ≡ p + 24

point_step : (prefix a b c d e f ms rest : List ℕ) (p : ℕ) → length prefix ≡ p → length a ≡ 4 → length b ≡ 4 →
    length c ≡ 4 → length d ≡ 4 → length e ≡ 4 → length f ≡ 4 →
    PointStep prefix a b c d e f (ms ++ rest) p (prefix ++ (((a ++ b ++ c ++ d ++ e ++ f) ++ ms) ++ rest))
point_step prefix a b c d e f ms rest p place la lb lc ld le lf =
    let bytes = prefix ++ (((a ++ b ++ c ++ d ++ e ++ f) ++ ms) ++ rest) in
    let at-id : bytes ≡ prefix ++ (a ++ (b ++ (c ++ (d ++ (e ++ (f ++ (ms ++ rest))))))) = simp append_assoc in
    let at-position : bytes ≡ (prefix ++ a) ++ (b ++ (c ++ (d ++ (e ++ (f ++ (ms ++ rest)))))) = simp append_assoc in
    let at-offset : bytes ≡ (prefix ++ a ++ b ++ c ++ d ++ e) ++ (f ++ (ms ++ rest)) = simp append_assoc in
    record {
      id-is = ap (λ (x : List ℕ). slice_range x p (p + 4)) at-id ∙ range_at_seam prefix a _ p 4 place la;
      position-is = ap (λ (x : List ℕ). slice_range x (p + 4) (p + 4 + 4)) at-position
          ∙ range_at_seam (prefix ++ a) b _ (p + 4) 4 (length-append prefix a ∙ omega arith) lb;
      offset-is = ap (λ (x : List ℕ). slice_range x (p + 20) (p + 20 + 4)) at-offset
          ∙ range_at_seam (prefix ++ a ++ b ++ c ++ d ++ e) f (ms ++ rest) (p + 20) 4
          (simp length-append (omega arith)) lf;
      next = simp append_assoc;
      next-place = simp length-append (omega arith);
    }

same_cues : (i i' p p' o o' : ℕ) (t t' : List RawCue) → i ≡ i' → p ≡ p' → o ≡ o' → t ≡ t' →
    (let left : RawCue = record { id = i; position = p; offset = o } in left ∷ t)
    ≡ (let right : RawCue = record { id = i'; position = p'; offset = o' } in right ∷ t')
same_cues i i' p p' o o' t t' ie pe oe te = cc

number_back : (n : ℕ) (bytes : List ℕ) → n < 2 ^ 32 → bytes ≡ le32 n → from_le_bytes w32 bytes ≡ n
number_back n bytes fits is = ap (from_le_bytes w32) is ∙ from_le_bytes-to_le_bytes_4 n fits

-- the points after a prefix
points_read_back : (markers : List (ℕ × ℕ)) (prefix rest : List ℕ) (p : ℕ) → length prefix ≡ p → All IsMarker markers →
    raw_cues (prefix ++ (flat_map cue_point markers ++ rest)) p (length markers) ≡ map reported_cue markers
points_read_back [] prefix rest p place are = refl
points_read_back (m ∷ ms) prefix rest p place are =
    let is = All-head IsMarker m ms are in
    let step = point_step prefix (le32 m.0) (le32 m.1) (codes "data") (le32 0) (le32 0) (le32 m.1)
    (flat_map cue_point ms) rest p place refl refl refl refl refl refl in
    same_cues _ m.0 _ m.1 _ m.1 _ (map reported_cue ms)
    (number_back m.0 _ is.id step.id-is) (number_back m.1 _ is.frame step.position-is)
    (number_back m.1 _ is.frame step.offset-is)
    (ap (λ (b : List ℕ). raw_cues b (p + 24) (length ms)) step.next
    ∙ points_read_back ms (prefix ++ cue_point m) rest (p + 24) step.next-place (All-tail IsMarker m ms are))

pub cues_read_back : EachCueChunkReadsBack
cues_read_back markers rest few are =
    let prefix = le32 (length markers) in
    record {
      count = from_le_bytes-to_le_bytes_4 (length markers) few;
      points = ap (λ (b : List ℕ). raw_cues b 4 (length markers))
          (append_assoc prefix (flat_map cue_point markers) rest) ∙ points_read_back markers prefix rest 4 refl are;
    }
