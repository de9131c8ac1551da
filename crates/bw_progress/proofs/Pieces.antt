-- Pauses in pieces.
use Rattle.std.proofs.Common.{◌≡◌, ℕ, ◌+◌, [], ◌∷◌, refl, arith}
use Rattle.std.specs.Prelude.{sum}
use Rattle.std.proofs.lemmas.List.Sums.{sum_by-cons}
use Rattle.bw_progress.specs.Pauses.{PausesInPieces}

-- one pause
pub whole_pause : {P : Type 0} (waits : P → ℕ → P → Type 0) (a b : P) (m : ℕ) → waits a m b → PausesInPieces waits a m b
whole_pause waits a b m waited = (m ∷ [], omega arith, (b, waited, refl))

-- one more before others
pub pause_before : {P : Type 0} (waits : P → ℕ → P → Type 0) (a c b : P) (m n : ℕ) → waits a m c →
    PausesInPieces waits c n b → PausesInPieces waits a (m + n) b
pause_before waits a c b m n waited rest =
    let all = rest.1 in
    let more : sum (m ∷ rest.0) ≡ m + sum rest.0 = sum_by-cons (λ (k : ℕ). k) m rest.0 in
    (m ∷ rest.0, omega (arith, all, more), (c, waited, rest.2))
