-- Reading a chunk's content in parts.
use Rattle.std.proofs.Common.{◌≡◌, ℕ, ◌+◌, ◌≤◌, Bool, false, cond, List, length, drop, Option, Some, None, refl, sym}
use Rattle.std.proofs.Common.{◌∙◌, ap, subst, arith, zero-add, lit≤}
use Rattle.std.specs.Prelude.{slice_range, nat_lt}
use Rattle.std.specs.Int.{w16, w32, w64, from_le_bytes}
use Rattle.std.proofs.lemmas.Bool.{le-ltb}
use Rattle.bw_model.specs.Bytes.{first_that_holds, u16_at, u32_at, u64_at}
use Rattle.bw_model.specs.Reading as reading
use Rattle.bw_model.specs.Report as report
use Rattle.bw_layout.specs.Raw.{bext_at}
use Rattle.bw_inspect.specs.declared.chunk.ChunkKind.{ChunkKind}
use Rattle.bw_inspect.specs.declared.chunk.ChunkKind.TheVariants.{Bext}
use Rattle.bw_inspect.specs.Chunks.{is_cue_kind, content_faults}
use Rattle.bw_inspect.specs.Known.{Facts, bext_reported}
use Rattle.bw_inspect.specs.Contents.{ReadTo, IsFaultless, IsLearned}
use Rattle.bw_inspect.proofs.PartialReads.{part_at}

-- a part of a content is in all the bytes
pub in_content : (b : List ℕ) (e : reading.Entry) (i j : ℕ) → i ≤ j → j ≤ e.size →
    slice_range (report.content_of b (Some e)) i j ≡ slice_range b (e.place + 8 + i) (e.place + 8 + j)
in_content b e i j h k = part_at b (e.place + 8) e.size i j h k

cut_faults : (len p count c : ℕ) (s : ChunkKind) (v : Bool) → nat_lt len (p + 8 + c) ≡ v → is_cue_kind s ≡ false →
    first_that_holds (content_faults len p s count c)
    ≡ cond v (Some (record { kind = reading.Truncated; offset = p })) None
cut_faults len p count c s v e n = rw (n, e) refl

-- a content of which only the length can be wrong

pub plain_whole : (b : List ℕ) (e : reading.Entry) (s : ChunkKind) (left : Option (List ℕ)) → is_cue_kind s ≡ false →
    ReadTo b e e.size left → IsFaultless b s e left
plain_whole b e s left n r = record {
  free = cut_faults (length b) e.place (u32_at b (e.place + 8)) e.size s false
      (le-ltb (length b) (e.place + 8 + e.size) r.there) n;
  to = r;
}

-- a part of a prefix, and a number in it

pub range_prefix : (c : List ℕ) (n i j : ℕ) → i ≤ j → j ≤ n → slice_range (slice_range c 0 n) i j ≡ slice_range c i j
range_prefix c n i j h k =
    ap (λ (m : ℕ). slice_range (slice_range c 0 m) i j) (sym (zero-add n))
    ∙ part_at c 0 n i j h k
    ∙ (ap (λ (m : ℕ). slice_range c m (0 + j)) (zero-add i) ∙ ap (λ (m : ℕ). slice_range c i m) (zero-add j))

u16_prefix : (c : List ℕ) (n p : ℕ) → p + 2 ≤ n → u16_at (slice_range c 0 n) p ≡ u16_at c p
u16_prefix c n p h = ap (from_le_bytes w16) (range_prefix c n p (p + 2) (omega arith) h)

pub u32_prefix : (c : List ℕ) (n p : ℕ) → p + 4 ≤ n → u32_at (slice_range c 0 n) p ≡ u32_at c p
u32_prefix c n p h = ap (from_le_bytes w32) (range_prefix c n p (p + 4) (omega arith) h)

pub u64_prefix : (c : List ℕ) (n p : ℕ) → p + 8 ≤ n → u64_at (slice_range c 0 n) p ≡ u64_at c p
u64_prefix c n p h = ap (from_le_bytes w64) (range_prefix c n p (p + 8) (omega arith) h)

-- what `fmt ` says is in its first 16 bytes
pub fmt_prefix : (c : List ℕ) → report.raw_fmt (slice_range c 0 16) ≡ report.raw_fmt c
fmt_prefix c =
    let a = u16_prefix c 16 0 (lit≤ tt) in
    let d = u16_prefix c 16 2 (lit≤ tt) in
    let e = u32_prefix c 16 4 (lit≤ tt) in
    let f = u32_prefix c 16 8 (lit≤ tt) in
    let g = u16_prefix c 16 12 (lit≤ tt) in
    let h = u16_prefix c 16 14 (lit≤ tt) in
    cc

fields_prefix : (c : List ℕ) → report.raw_bext (slice_range c 0 602) ≡ report.raw_bext c
fields_prefix c =
    let t1 = range_prefix c 602 0 256 (lit≤ tt) (lit≤ tt) in
    let t2 = range_prefix c 602 256 288 (lit≤ tt) (lit≤ tt) in
    let t3 = range_prefix c 602 288 320 (lit≤ tt) (lit≤ tt) in
    let t4 = range_prefix c 602 320 330 (lit≤ tt) (lit≤ tt) in
    let t5 = range_prefix c 602 330 338 (lit≤ tt) (lit≤ tt) in
    let t6 = range_prefix c 602 348 412 (lit≤ tt) (lit≤ tt) in
    let n1 = u64_prefix c 602 338 (lit≤ tt) in
    let n2 = u16_prefix c 602 346 (lit≤ tt) in
    let l1 = u16_prefix c 602 412 (lit≤ tt) in
    let l2 = u16_prefix c 602 414 (lit≤ tt) in
    let l3 = u16_prefix c 602 416 (lit≤ tt) in
    let l4 = u16_prefix c 602 418 (lit≤ tt) in
    let l5 = u16_prefix c 602 420 (lit≤ tt) in
    rw (t1, t2, t3, t4, t5, t6, n1, n2, l1, l2, l3, l4, l5) refl

-- what `bext` says is in its first 602 bytes, and so are its reserved bytes
pub bext_prefix : (c : List ℕ) → bext_at (slice_range c 0 602) ≡ bext_at c
bext_prefix c =
    ap (λ (x : report.RawBext). (x, slice_range (slice_range c 0 602) 422 602)) (fields_prefix c)
    ∙ ap (λ (z : List ℕ). (report.raw_bext c, z)) (range_prefix c 602 422 602 (lit≤ tt) (lit≤ tt))

-- after a head its content begins
pub at_start : (b : List ℕ) (e : reading.Entry) (left : Option (List ℕ)) → e.place + 8 ≤ length b →
    left ≡ Some (drop (e.place + 8) b) → ReadTo b e 0 left
at_start b e left h r = record {
  there = omega arith;
  rest = r ∙ ap (λ (k : ℕ). Some (drop k b)) (let g : e.place + 8 ≡ e.place + 8 + 0 = omega arith in g);
}

-- of the same chunk
pub read_as : (b : List ℕ) (e e' : reading.Entry) (done : ℕ) (left : Option (List ℕ)) → e ≡ e' → ReadTo b e done left →
    ReadTo b e' done left
read_as b e e' done left same r = subst (λ (x : reading.Entry). ReadTo b x done left) same r

-- what `bext` says is known
pub bext_learned : (b : List ℕ) (e : reading.Entry) (x : (report.RawBext × List ℕ) × ℕ) (old : Facts)
    (left : Option (List ℕ)) → ReadTo b e e.size left → x ≡ bext_reported b e →
    IsLearned b Bext e old (record old { bext = Some x }) left
bext_learned b e x old left r q = record {
  whole = plain_whole b e Bext left refl r;
  facts = ap (λ (y : (report.RawBext × List ℕ) × ℕ). record old { bext = Some y }) q;
}
