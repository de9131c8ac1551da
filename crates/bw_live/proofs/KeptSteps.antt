-- What is gone on with.
use Rattle.std.proofs.Common.{◌≡◌, ℕ, List, [], ◌∷◌, Option, Some, None, sym, subst}
use Rattle.bw_live.specs.KeptPlaces.{GoesOnMarking, MarksKept, kept_said, no_marks}

-- what was kept is
pub kept_on : (header bytes : List ℕ) (k : MarksKept) → kept_said header bytes ≡ Some k → GoesOnMarking header bytes k
kept_on header [] k h = let bad : ◌≡◌ {A = Option MarksKept} None (Some k) = h in cc
kept_on header (b ∷ bs) k h = h

-- nothing was
pub nothing_kept : (header bytes : List ℕ) (k : MarksKept) → bytes ≡ [] → k ≡ no_marks → GoesOnMarking header bytes k
nothing_kept header bytes k none is = subst (λ (z : List ℕ). GoesOnMarking header z k) (sym none) is
