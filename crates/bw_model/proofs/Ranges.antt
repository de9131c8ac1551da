-- Bytes are below 256.
use Rattle.std.proofs.Common.{◌≡◌, ℕ, ◌+◌, ◌<◌, List, [], ◌∷◌, get_or, true, refl, arith}
use Rattle.std.proofs.lemmas.Grind.{common_steps}
use Rattle.bw_model.specs.Wire.{are_bytes}

pub are_bytes_lem : (xs : List ℕ) → ((k : ℕ) → get_or xs k 0 < 256) → are_bytes xs ≡ true
are_bytes_lem [] h = refl
are_bytes_lem (x ∷ xs) h =
    let first : x < 256 = h 0 in
    let rest = are_bytes_lem xs (λ k. let e = h (k + 1) in search (arith, e)) in
    grind (arith, common_steps, first, rest)
