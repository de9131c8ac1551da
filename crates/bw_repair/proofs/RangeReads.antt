-- What is read of a file from a place on.
use Rattle.std.proofs.Common.{◌≡◌, ◌∙◌, ◌⊎◌, inl, inr, ℕ, ◌+◌, ◌-◌, ◌≤◌, List, length, take, drop, Option, Some, sym, ap, arith}
use Rattle.std.proofs.Common.{length-drop}
use Rattle.std.specs.Prelude.{option_map}
use Rattle.std.proofs.lemmas.List.{drop-drop}
use Rattle.bw_disk.specs.Volumes.{ReadsFrom}

-- what was read is of the content from the place on
pub from_place : (content : Option (List ℕ)) (place count n more : ℕ) (rest : List ℕ)
    → ReadsFrom content (place + count) n more rest
    → ReadsFrom (option_map (drop place) content) count n more rest
from_place content place count n more rest r =
    let long : length (drop place r.found) ≡ length r.found - place = length-drop place r.found in
    let within = r.within in record {
      found = drop place r.found;
      stands = ap (option_map (drop place)) r.stands;
      within = omega (arith, long, within);
      copied = r.copied ∙ ap (λ (x : List ℕ). take more x) (sym (drop-drop count place r.found));
      ended = λ none. ends long (r.ended none);
    }
  where
    ends : length (drop place r.found) ≡ length r.found - place
        → (n ≡ 0) ⊎ (length r.found ≤ place + count) → (n ≡ 0) ⊎ (length (drop place r.found) ≤ count)
    ends long (inl z) = inl z
    ends long (inr past) = inr (omega (arith, long, past))
