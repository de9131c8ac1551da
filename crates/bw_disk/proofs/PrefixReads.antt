-- What was read of a file so far.
use Rattle.std.proofs.Common.{◌≡◌, ℕ, ◌+◌, ◌-◌, ◌≤◌, List, ◌++◌, IsSome, ◌<◌, take, drop, length, Option, Some, refl, sym, ap, ◌∙◌, arith}
use Rattle.std.proofs.lemmas.List.{length-take-le, take-append-le}
use Rattle.std.proofs.Math.Seq.{take-add, take-append-add}
use Rattle.bw_model.proofs.Elements.{some_inj}
use Rattle.bw_disk.specs.Volumes.{ReadsFrom, ReadsPrefix}

-- the first bytes of a content are in the room
abbrev pub IsReadTo : Option (List ℕ) → ℕ → List ℕ → Type 0
IsReadTo content count room =
    (0 < count → IsSome content)
    × ((found : List ℕ) → content ≡ Some found → (count ≤ length found) × (take count room ≡ take count found))

-- nothing is read at first
pub read_none : (content : Option (List ℕ)) (room : List ℕ) → IsReadTo content 0 room
read_none content room = (λ some. absurd (omega (arith, some)), λ found is. (omega arith, refl))

-- more is read
pub read_more : (content again : Option (List ℕ)) (room rest tail : List ℕ) (count more n : ℕ) → count ≤ length room →
    more ≤ length rest → IsReadTo content count room → again ≡ content → ReadsFrom again count n more rest →
    IsReadTo content (count + more) (take count room ++ (rest ++ tail))
read_more content again room rest tail count more n fits enough so the r =
    (λ some. rw (sym the ∙ r.stands) refl, more_of)
  where
    more_of : (found : List ℕ) → content ≡ Some found → (count + more ≤ length found)
        × (take (count + more) (take count room ++ (rest ++ tail)) ≡ take (count + more) found)
    more_of found is =
        let same : r.found ≡ found = some_inj (sym r.stands ∙ the ∙ is) in
        let was = so.1 found is in
        let within : more ≤ length found - count = rw (sym same) r.within in
        let next : take more rest ≡ take more (drop count found) =
        r.copied ∙ ap (λ (x : List ℕ). take more (drop count x)) same in
        let long : length (take count room) ≡ count = length-take-le count room fits in (
          omega (arith, was.0, within),
          ap (λ (k : ℕ). take (k + more) (take count room ++ (rest ++ tail))) (sym long)
              ∙ take-append-add (take count room) (rest ++ tail) more
              ∙ ap (λ (x : List ℕ). take count room ++ x) (take-append-le more rest tail enough ∙ next)
              ∙ ap (λ (x : List ℕ). x ++ take more (drop count found)) was.1
              ∙ sym (take-add count more found),
        )

-- all is read once the room is full
pub read_full : (content : Option (List ℕ)) (room : List ℕ) (count n : ℕ) → n ≡ length room → count ≡ n →
    IsReadTo content count room → ReadsPrefix content n count room
read_full content room count n is full so found stands =
    let was = so.1 found stands in (omega (arith, was.0), was.1)
