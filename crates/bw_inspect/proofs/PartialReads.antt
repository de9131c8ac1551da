-- Bytes that are read in pieces.
use Rattle.std.proofs.Common.{◌≡◌, ℕ, zero, suc, lit<, lit≤, add-zero, ◌+◌, ◌-◌, ◌<◌, ◌≤◌, List, [], ◌++◌, length, take}
use Rattle.std.proofs.Common.{drop, Option, Some, true, refl, sym, ◌∙◌, ap, arith, add_assoc, length-drop}
use Rattle.std.proofs.lemmas.List.{drop-drop, drop_all, drop-take, take-take, take-append-le, length-take-le}
use Rattle.std.specs.Prelude.{slice_range}
use Rattle.std.specs.Int.{w32, from_le_bytes}
use Rattle.std.proofs.Math.Seq.{take-add, take-append-add}
use Rattle.bw_model.specs.Bytes.{u32_at}
use Rattle.bw_stream.specs.Moves.{IsRead, IsSkipped}
use Rattle.bw_layout.specs.declared.chunk.ChunkHead.{ChunkHead}
use Rattle.bw_inspect.specs.declared.fault.InspectFault.{InspectFault}
use Rattle.bw_inspect.specs.Faults.{is_failed_read, is_of_bytes}
use Rattle.bw_inspect.specs.Places.{IsGiven, IsMissed}
use Rattle.bw_inspect.specs.Walks.{IsHead}
use Rattle.bw_inspect.proofs.Faults.{bytes_no_read, not_both}

-- so far d bytes of b from a place on went into the buffer
pub record IsPartRead (b : List ℕ) (place d : ℕ) (buf : List ℕ) (left : Option (List ℕ)) : Type 0 where
  pub within : 0 < d → place + d ≤ length b
  pub got : take d buf ≡ take d (drop place b)
  pub rest : left ≡ Some (drop (place + d) b)

-- so far d bytes of b from a place on were passed over
pub record IsPartPassed (b : List ℕ) (place d : ℕ) (left : Option (List ℕ)) : Type 0 where
  pub within : 0 < d → place + d ≤ length b
  pub rest : left ≡ Some (drop (place + d) b)

further : (b : List ℕ) (k n : ℕ) → drop n (drop k b) ≡ drop (k + n) b
further b k n = drop-drop n k b

reach : (b : List ℕ) (place d n : ℕ) → (0 < d → place + d ≤ length b) → n ≤ length (drop (place + d) b) → 0 < d + n →
    place + (d + n) ≤ length b
reach b place d n w h p = let e : length (drop (place + d) b) ≡ length b - (place + d) =
    length-drop (place + d) b in grind arith

-- n more bytes are passed over
pub more_passed : (b : List ℕ) (place d n most : ℕ) (left : Option (List ℕ)) → (0 < d → place + d ≤ length b) →
    IsSkipped (drop (place + d) b) most n left → IsPartPassed b place (d + n) left
more_passed b place d n most left w r = record {
  within = λ p. reach b place d n w r.within p;
  rest = r.rest ∙ ap Some (further b (place + d) n ∙ ap (λ (k : ℕ). drop k b) (add_assoc place d n));
}

-- n more bytes went into the buffer
pub more_read : (b : List ℕ) (place d n most : ℕ) (buf new post : List ℕ) (left : Option (List ℕ)) →
    (0 < d → place + d ≤ length b) →
    take d buf ≡ take d (drop place b) → d ≤ length buf → n ≤ length new →
    IsRead (drop (place + d) b) most n new left → IsPartRead b place (d + n) (take d buf ++ (new ++ post)) left
more_read b place d n most buf new post left w g l fits r =
    let xs : List ℕ = drop (place + d) b in
    let low : length (take d buf) ≡ d = length-take-le d buf l in
    let piece : length (take n xs) ≡ n = length-take-le n xs r.within in
    let inner : take n (new ++ post) ≡ take n xs =
    take-append-le n new post fits ∙ r.given in
    let prefix : take (d + n) (take d buf ++ (new ++ post)) ≡ take d buf ++ take n xs =
    ap (λ (k : ℕ). take (k + n) (take d buf ++ (new ++ post))) (sym low)
    ∙ (take-append-add (take d buf) (new ++ post) n ∙ ap (λ (z : List ℕ). take d buf ++ z) inner) in
    let back : take (d + n) (drop place b) ≡ take d (drop place b) ++ take n xs =
    take-add d n (drop place b) ∙ ap (λ (z : List ℕ). take d (drop place b) ++ take n z) (further b place d) in
    record {
      within = λ p. reach b place d n w r.within p;
      got = prefix ∙ (ap (λ (z : List ℕ). z ++ take n xs) g ∙ sym back);
      rest = r.rest ∙ ap Some (further b (place + d) n ∙ ap (λ (k : ℕ). drop k b) (add_assoc place d n));
    }

-- nothing comes after a place at or past the end
pub ended : (b : List ℕ) (k : ℕ) → drop k b ≡ [] → length b ≤ k
ended b k e = let l = length-drop k b in let z : length (drop k b) ≡ 0 = ap length e in omega arith

-- b ends before the n bytes that are wanted from a place on
pub missed : (b : List ℕ) (place d n k : ℕ) (cut : InspectFault) (left left' : Option (List ℕ)) →
    left ≡ Some (drop (place + d) b) → left' ≡ Some (drop k (drop (place + d) b)) → k ≡ 0 →
    d < n → (0 < d → place + d ≤ length b) → drop (place + d) b ≡ [] → is_of_bytes cut.kind ≡ true →
    IsMissed b place n cut cut left'
missed b place d n k cut left left' e e' z small there empty c =
    let l = ended b (place + d) empty in
    record {
      taken = d;
      small = omega arith;
      there = there;
      rest = e' ∙ ap (λ (j : ℕ). Some (drop j (drop (place + d) b))) z;
      cuts = λ h. (refl, omega arith);
      fails = λ h. absurd (not_both (is_failed_read cut.kind) (bytes_no_read cut.kind c) h);
    }

-- a pad byte that may be absent
pub pad_passed : (b : List ℕ) (place n : ℕ) (left : Option (List ℕ)) → n ≤ 1 → IsSkipped (drop place b) 1 n left →
    left ≡ Some (drop (place + 1) b)
pad_passed b place zero left h s =
    let empty : drop place b ≡ [] = s.end refl (lit< tt) in
    let l = ended b place empty in
    let gone : drop (place + 1) b ≡ [] = drop_all (place + 1) b (omega arith) in
    s.rest ∙ ap Some (ap (drop 0) empty ∙ sym gone)
pad_passed b place (suc n) left h s =
    let one : suc n ≡ 1 = omega arith in
    s.rest ∙ ap Some (ap (λ (k : ℕ). drop k (drop place b)) one ∙ further b place 1)

-- a part of a part
pub part_at : (b : List ℕ) (p n i j : ℕ) → i ≤ j → j ≤ n →
    slice_range (slice_range b p (p + n)) i j ≡ slice_range b (p + i) (p + j)
part_at b p n i j h k =
    let wide : p + n - p ≡ i + (n - i) = omega arith in
    let here : p + j - (p + i) ≡ j - i = omega arith in
    ap (λ (m : ℕ). take (j - i) (drop i (take m (drop p b)))) wide
    ∙ ap (take (j - i)) (drop-take i (n - i) (drop p b))
    ∙ take-take (j - i) (n - i) (drop i (drop p b)) (omega arith)
    ∙ ap (take (j - i)) (drop-drop i p b)
    ∙ ap (λ (m : ℕ). take m (drop (p + i) b)) (sym here)

-- a head in 8 bytes that were read
pub head_read : (b : List ℕ) (p : ℕ) (buf : List ℕ) (h : ChunkHead) (left : Option (List ℕ)) → IsGiven b p 8 buf left →
    h.id ≡ slice_range buf 0 4 → h.size32 ≡ u32_at buf 4 → IsHead b p h left
head_read b p buf h left g i s = record {
  within = g.within (lit< tt);
  spells = i ∙ ap (λ (z : List ℕ). slice_range z 0 4) g.bytes ∙ part_at b p 8 0 4 (lit≤ tt) (lit≤ tt)
      ∙ ap (λ (k : ℕ). slice_range b k (p + 4)) (add-zero p);
  reports = s ∙ ap (λ (z : List ℕ). u32_at z 4) g.bytes ∙ ap (from_le_bytes w32) (part_at b p 8 4 8 (lit≤ tt) (lit≤ tt))
      ∙ ap (λ (k : ℕ). from_le_bytes w32 (slice_range b (p + 4) k)) (sym (add_assoc p 4 4));
  rest = g.rest;
}
