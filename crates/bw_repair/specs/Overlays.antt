-- Bytes with others in the place of some.
use Rattle.std.specs.Prelude.{ℕ, zero, suc, List, [], ◌∷◌}

-- after so many bytes these are in place of those there, as far as there are any
unfoldable pub overlaid : ℕ → List ℕ → List ℕ → List ℕ
overlaid ahead others [] = []
overlaid zero [] (x ∷ xs) = x ∷ xs
overlaid zero (c ∷ cs) (x ∷ xs) = c ∷ overlaid zero cs xs
overlaid (suc n) cs (x ∷ xs) = x ∷ overlaid n cs xs
