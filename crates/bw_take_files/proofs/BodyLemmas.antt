-- Bodies in the parts of a room.
use Rattle.std.proofs.Common.{◌≡◌, ℕ, ◌+◌, ◌-◌, ◌≤◌, List, ◌++◌, length, take, drop, arith, sym, ap, ◌∙◌, length-append, length-drop}
use Rattle.std.proofs.lemmas.List.{length-take-le, take-append-le, drop-take, take-take, drop_at}
use Rattle.std.proofs.Math.ListN.{length-replicate}
use Rattle.std.proofs.Math.Seq.{take-append-add}
use Rattle.bw_model.specs.Bytes.{zeros}

-- what is written from a place on leaves what ends before it
pub part_stays : (room rest : List ℕ) (at start len : ℕ) → at ≤ length room → start + len ≤ at →
    take len (drop start (take at room ++ rest)) ≡ take len (drop start room)
part_stays room rest at start len fits before =
    let long : length (take at room) ≡ at = length-take-le at room fits in
    sym (drop-take start len (take at room ++ rest))
    ∙ ap (drop start) (take-append-le (start + len) (take at room) rest (omega (arith, long, before))
    ∙ take-take (start + len) at room before)
    ∙ drop-take start len room

-- what is written at a place begins there
pub part_begins : (room part tail : List ℕ) (at len : ℕ) → at ≤ length room → len ≤ length part →
    take len (drop at (take at room ++ (part ++ tail))) ≡ take len part
part_begins room part tail at len fits within =
    ap (take len) (drop_at (take at room) (part ++ tail) at (length-take-le at room fits))
    ∙ take-append-le len part tail within

-- what was there before a place, and what is written there
pub part_follows : (room part tail : List ℕ) (at len : ℕ) → at ≤ length room → len ≤ length part →
    take (at + len) (take at room ++ (part ++ tail)) ≡ take at room ++ take len part
part_follows room part tail at len fits within =
    ap (λ (n : ℕ). take (n + len) (take at room ++ (part ++ tail))) (sym (length-take-le at room fits))
    ∙ take-append-add (take at room) (part ++ tail) len
    ∙ ap (λ (b : List ℕ). take at room ++ b) (take-append-le len part tail within)

-- a part that is written over is as long as it was
pub part_length : (room part : List ℕ) (at k : ℕ) → at + k ≤ length room → length part ≡ k →
    length (take at room ++ (part ++ drop k (drop at room))) ≡ length room
part_length room part at k fits whole =
    let long : length (take at room) ≡ at = length-take-le at room (omega (arith, fits)) in
    let rest : length (drop at room) ≡ length room - at = length-drop at room in
    let end : length (drop k (drop at room)) ≡ length (drop at room) - k = length-drop k (drop at room) in
    omega (
      arith,
      fits,
      whole,
      long,
      rest,
      end,
      length-append (take at room) (part ++ drop k (drop at room)),
      length-append part (drop k (drop at room)),
    )

-- how many zeros there are
pub length_of_zeros : (items : List ℕ) (n : ℕ) → items ≡ zeros n → length items ≡ n
length_of_zeros items n e = ap length e ∙ length-replicate n 0
