-- The calls of a store of which one chosen call fails, or none.
use Rattle.std.specs.Prelude.{◌≡◌, ◌<◌, ◌≤◌, ◌==◌, ℕ, min, Bool, false, not, IsFalse}
use Rattle.std.specs.Prelude.{Option, Some, None, List, [], ◌∷◌, filter, sum_by}
use Rattle.std.specs.Prelude.{if◌then◌else◌, nat_lt}
use Rattle.std.specs.Ordering.{nat_cmp}
use Rattle.std.specs.Cmp.Lexicographic.{slice_cmp}
use Rattle.std.specs.List.Sorted.{IsStrictlySortedBy}
use Rattle.bw_store.specs.Stores.{last_count}

-- the calls that fail
abbrev pub fuses_of : Option ℕ → List ℕ
fuses_of None = []
fuses_of (Some fuse) = fuse ∷ []

-- the call of this number is the fuse's
abbrev pub is_at : Option ℕ → ℕ → Bool
is_at None call = false
is_at (Some fuse) call = fuse == call

-- Of this many calls of a store one failed where they are more than the fuse's number, and none
-- else: the call of that number fails, counted from 0, and no other.
abbrev pub failures_under : Option ℕ → ℕ → ℕ
failures_under None calls = 0
failures_under (Some fuse) calls = if nat_lt fuse calls then 1 else 0

-- the fuses that are left after this many calls
abbrev pub fuses_after : Option ℕ → ℕ → List ℕ
fuses_after fuse calls = filter (λ f. not (nat_lt f calls)) (fuses_of fuse)

-- Of this many calls the fuse's failed, if it came; a store in which another call failed knows
-- that.
pub record KeepsFuse (fuse : Option ℕ) (failed : Bool) (fuses : List ℕ) (calls failures : ℕ) :
    Type 0 where
  pub left : fuses ≡ fuses_after fuse calls
  pub early : (k : ℕ) → fuse ≡ Some k → k < last_count
  pub counted : IsFalse failed → failures ≡ failures_under fuse calls

-- how many calls a content took at least: one made its name, and one wrote bytes, if it has any
abbrev pub least_calls : Option (List ℕ) → ℕ
least_calls None = 0
least_calls (Some []) = 1
least_calls (Some (byte ∷ bytes)) = 2

-- this many calls are enough for these names' contents
abbrev pub SufficeFor : (List ℕ → Option (List ℕ)) → List (List ℕ) → ℕ → Type 0
SufficeFor contents names calls =
    min (sum_by (λ name. least_calls (contents name)) names) last_count ≤ calls

-- for those of any names in their order
abbrev pub SufficeForAll : (List ℕ → Option (List ℕ)) → ℕ → Type 0
SufficeForAll contents calls = (names : List (List ℕ)) →
    IsStrictlySortedBy (slice_cmp nat_cmp) names → SufficeFor contents names calls
