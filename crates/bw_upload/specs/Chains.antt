-- Steps in a row.
use Rattle.std.specs.Prelude.{◌≡◌, List, [], ◌∷◌}

module _ {E S : Type 0} (step : E → S → S → Type 0) where
  -- these events, one after another, lead from one state to another
  abbrev pub Chain : List E → S → S → Type 0
  Chain [] x y = y ≡ x
  Chain (e ∷ es) x y = (z : S) × step e x z × Chain es z y
