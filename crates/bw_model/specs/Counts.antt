-- Counts of 64 bits, which stay at their last value.
use Rattle.std.specs.Prelude.{◌≡◌, ℕ, ◌+◌, ◌<◌, ◌≤◌, Bool, IsTrue, IsFalse}

-- the last value of a count of 64 bits
abbrev pub last_count : ℕ
last_count = 18446744073709551615

-- A count rises by one in a call if this happens, and only then.
pub record Counts (before after : ℕ) (happens : Bool) : Type 0 where
  pub quiet : IsFalse happens → after ≡ before
  pub rises : IsTrue happens → before < last_count → after ≡ before + 1
  pub stays : last_count ≤ before → after ≡ before
