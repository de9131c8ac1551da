-- Writes into a list of bytes.
use Rattle.std.proofs.Common.{◌≡◌, ℕ, ◌+◌, ◌-◌, ◌<◌, ◌≤◌, List, [], ◌∷◌, ◌++◌, length, take, drop, replicate, refl, sym}
use Rattle.std.proofs.Common.{arith}
use Rattle.std.proofs.lemmas.List.{drop_all, append-nil}
use Rattle.bw_store.specs.Stores.{overwritten}

-- some bytes
pub overwritten_some : (old : List ℕ) (place : ℕ) (bytes : List ℕ) → 0 < length bytes →
    overwritten old place bytes
    ≡ take place old ++ replicate (place - length old) 0 ++ bytes ++ drop (place + length bytes) old
overwritten_some old place [] some = absurd (omega (arith, some))
overwritten_some old place (byte ∷ rest) some = refl

-- past the end of what is there
pub overwritten_past : (old : List ℕ) (place : ℕ) (bytes : List ℕ) → 0 < length bytes →
    length old ≤ place + length bytes →
    (take place old ++ replicate (place - length old) 0) ++ bytes ≡ overwritten old place bytes
overwritten_past old place bytes some h =
    rw (overwritten_some old place bytes some, drop_all (place + length bytes) old h)
    (sym (append-nil ((take place old ++ replicate (place - length old) 0) ++ bytes)))
