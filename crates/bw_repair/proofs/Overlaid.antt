-- Zero bytes over the first of others.
use Rattle.std.proofs.Common.{◌≡◌, ℕ, ◌≤◌, List, [], ◌∷◌, length, refl, ap, arith}
use Rattle.bw_repair.proofs.Overlays.{overlaid-none}
use Rattle.bw_repair.specs.Overlays.{overlaid}
use Rattle.bw_repair.specs.Forms.{unnamed}

-- zero bytes over the first of at least four
pub overlaid_zeros : (b : List ℕ) → 4 ≤ length b → overlaid 0 (0 ∷ 0 ∷ 0 ∷ 0 ∷ []) b ≡ unnamed b
unfolding overlaid
overlaid_zeros [] h = absurd (omega (arith, h))
overlaid_zeros (a ∷ []) h = absurd (omega (arith, h))
overlaid_zeros (a ∷ c ∷ []) h = absurd (omega (arith, h))
overlaid_zeros (a ∷ c ∷ d ∷ []) h = absurd (omega (arith, h))
overlaid_zeros (a ∷ c ∷ d ∷ e ∷ rest) h =
    ap (λ (z : List ℕ). 0 ∷ 0 ∷ 0 ∷ 0 ∷ z) (overlaid-none 0 rest)

pub unnamed_length : (b : List ℕ) → 4 ≤ length b → length (unnamed b) ≡ length b
unnamed_length [] h = absurd (omega (arith, h))
unnamed_length (a ∷ []) h = absurd (omega (arith, h))
unnamed_length (a ∷ c ∷ []) h = absurd (omega (arith, h))
unnamed_length (a ∷ c ∷ d ∷ []) h = absurd (omega (arith, h))
unnamed_length (a ∷ c ∷ d ∷ e ∷ rest) h = refl
