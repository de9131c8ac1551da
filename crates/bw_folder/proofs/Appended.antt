-- What writes over a prefix of the same bytes leave.
use Rattle.std.proofs.Common.{◌≡◌, ◌∙◌, ℕ, zero, suc, ◌<◌, ◌≤◌, Bool, true, false, List, [], ◌∷◌, ◌++◌, length}
use Rattle.std.proofs.Common.{take, drop, Option, Some, refl, sym, ap, arith}
use Rattle.std.specs.Prelude.{option_map, nat_lt, OnErr, Result, Ok, Err}
use Rattle.std.proofs.lemmas.Bool.{ltb-true, ltb-false}
use Rattle.std.proofs.lemmas.List.{take_all, take-append-drop}
use Rattle.std.proofs.Math.Seq.{drop-append_seam}
use Rattle.bw_model.proofs.Elements.{some_inj}
use Rattle.bw_store.specs.Stores.{Written, overwritten}
use Rattle.bw_journal.proofs.Overwritten.{written_first, overwritten_after, overwritten_over}
use Rattle.bw_disk.specs.Volumes.{WrittenInPart}
use Rattle.bw_journal.specs.Notes.{Notes, NotesInPart}

-- a write of bytes that are there already
overwritten_same : (ys zs : List ℕ) → overwritten (ys ++ zs) 0 ys ≡ ys ++ zs
overwritten_same [] zs = refl
overwritten_same (y ∷ ys) zs =
    written_first ((y ∷ ys) ++ zs) y ys ∙ ap (λ (z : List ℕ). (y ∷ ys) ++ z) (drop-append_seam (y ∷ ys) zs)

take_fewer : (n m : ℕ) (xs : List ℕ) → n ≤ m → take n (take m xs) ≡ take n xs
take_fewer zero m xs h = refl
take_fewer (suc n) zero xs h = absurd (omega arith)
take_fewer (suc n) (suc m) [] h = refl
take_fewer (suc n) (suc m) (x ∷ xs) h = ap (λ (z : List ℕ). x ∷ z) (take_fewer n m xs (omega arith))

short : (n m : ℕ) (xs : List ℕ) → n ≤ m → length (take n xs) ≤ length (take m xs)
short zero m xs h = omega arith
short (suc n) zero xs h = absurd (omega arith)
short (suc n) (suc m) [] h = omega arith
short (suc n) (suc m) (x ∷ xs) h = let less : length (take n xs) ≤ length (take m xs) = short n m xs (omega arith) in omega arith

within : (n : ℕ) (xs : List ℕ) → length (take n xs) ≤ length xs
within zero xs = omega arith
within (suc n) [] = omega arith
within (suc n) (x ∷ xs) = let less : length (take n xs) ≤ length xs = within n xs in omega arith

-- all bytes over a prefix of them
pub overwritten_whole : (count : ℕ) (bytes : List ℕ) → overwritten (take count bytes) 0 bytes ≡ bytes
overwritten_whole count bytes = overwritten_over (take count bytes) bytes (within count bytes)

-- a prefix over a prefix of the same bytes
pub overwritten_part : (count n : ℕ) (bytes : List ℕ) →
    (k : ℕ) × (overwritten (take count bytes) 0 (take n bytes) ≡ take k bytes)
overwritten_part count n bytes = go (nat_lt n count) refl
  where
    go : (b : Bool) → nat_lt n count ≡ b → (k : ℕ) × (overwritten (take count bytes) 0 (take n bytes) ≡ take k bytes)
    go true e =
        let less : n < count = ltb-true n count e in
        let split : take n bytes ++ drop n (take count bytes) ≡ take count bytes =
        ap (λ (z : List ℕ). z ++ drop n (take count bytes)) (sym (take_fewer n count bytes (omega (arith, less))))
        ∙ take-append-drop n (take count bytes) in (
          count,
          ap (λ (z : List ℕ). overwritten z 0 (take n bytes)) (sym split)
              ∙ overwritten_same (take n bytes) (drop n (take count bytes))
              ∙ split,
        )
    go false e =
        let more : count ≤ n = ltb-false n count e in
        (n, overwritten_over (take count bytes) (take n bytes) (short count n bytes more))

-- bytes that were written after the first ones, over a prefix of them
pub written_notes : (offset : ℕ) (bytes : List ℕ) (before after : Option (List ℕ)) → Written before offset bytes after →
    Notes offset bytes before after
written_notes offset bytes before after w = λ base count was long.
    let same : w.0 ≡ base ++ take count bytes = some_inj (sym w.1 ∙ was) in
    w.2
    ∙ ap (λ (o : List ℕ). Some (overwritten o offset bytes)) same
    ∙ ap (λ (n : ℕ). Some (overwritten (base ++ take count bytes) n bytes)) (sym long)
    ∙ ap (λ (z : List ℕ). Some z) (overwritten_after base (take count bytes) bytes)
    ∙ ap (λ (z : List ℕ). Some (base ++ z)) (overwritten_whole count bytes)

-- a prefix of them
pub part_notes : (offset : ℕ) (bytes : List ℕ) (before after : Option (List ℕ)) → WrittenInPart before offset bytes after →
    NotesInPart offset bytes before after
part_notes offset bytes before after w = λ base count was long.
    let part = overwritten_part count w.0 bytes in (
      part.0,
      w.1
          ∙ ap (option_map (λ (old : List ℕ). overwritten old offset (take w.0 bytes))) was
          ∙ ap (λ (n : ℕ). Some (overwritten (base ++ take count bytes) n (take w.0 bytes))) (sym long)
          ∙ ap (λ (z : List ℕ). Some z) (overwritten_after base (take count bytes) (take w.0 bytes))
          ∙ ap (λ (z : List ℕ). Some (base ++ z)) part.1,
    )

-- nothing was written
pub unnoted : (offset : ℕ) (bytes : List ℕ) (before after : Option (List ℕ)) → after ≡ before →
    NotesInPart offset bytes before after
unnoted offset bytes before after same = λ base count was long. (count, same ∙ was)

-- all was written, and then something else failed
pub failed_whole : {T E : Type 0} (r : Result T E) (before after : Option (List ℕ)) (place : ℕ) (bytes : List ℕ) →
    Written before place bytes after → OnErr r (WrittenInPart before place bytes after)
failed_whole (Ok x) before after place bytes w = tt
failed_whole (Err e) before after place bytes w = (
  length bytes,
  w.2
      ∙ sym (ap (option_map (λ (old : List ℕ). overwritten old place (take (length bytes) bytes))) w.1
      ∙ ap (λ (b : List ℕ). Some (overwritten w.0 place b)) (take_all (length bytes) bytes (omega arith))),
)

-- all was noted, and then something else failed that changes nothing
pub failed_noted : {T E : Type 0} (r : Result T E) (offset : ℕ) (bytes : List ℕ) (before after later : Option (List ℕ)) →
    Notes offset bytes before after → later ≡ after → OnErr r (NotesInPart offset bytes before later)
failed_noted (Ok x) offset bytes before after later noted same = tt
failed_noted (Err e) offset bytes before after later noted same = λ base count was long. (
  length bytes,
  same
      ∙ noted base count was long
      ∙ ap (λ (z : List ℕ). Some (base ++ z)) (sym (take_all (length bytes) bytes (omega arith))),
)
