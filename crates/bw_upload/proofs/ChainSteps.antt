-- Events one after another, and others after them.
use Rattle.std.proofs.Common.{List, [], ◌∷◌, ◌++◌, refl, subst}
use Rattle.bw_upload.specs.Chains.{Chain}

module _ {E S : Type 0} (step : E → S → S → Type 0) where
  pub chain_on : (a b : List E) (x y z : S) → Chain step a x y → Chain step b y z → Chain step (a ++ b) x z
  chain_on [] b x y z f g = subst (λ (w : S). Chain step b w z) f g
  chain_on (e ∷ a) b x y z f g = (f.0, f.1, chain_on a b f.0 y z f.2 g)

  pub chain_one : (e : E) (x y : S) → step e x y → Chain step (e ∷ []) x y
  chain_one e x y f = (y, f, refl)
