-- Texts that are appended one after another.
use Rattle.std.proofs.Common.{◌≡◌, ◌∙◌, ℕ, List, ◌++◌, ap}
use Rattle.std.proofs.lemmas.List.{append_assoc}

-- what is appended after another text follows it
pub joined : {y z : List ℕ} (x a b : List ℕ) → y ≡ x ++ a → z ≡ y ++ b → z ≡ x ++ (a ++ b)
joined {y} {z} x a b e f = f ∙ ap (λ (w : List ℕ). w ++ b) e ∙ append_assoc x a b
