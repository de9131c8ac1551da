-- What a call that appends bytes does to a Vec.
use Rattle.std.specs.Prelude.{◌≡◌, ℕ, ◌+◌, ◌≤◌, List, ◌++◌, Result, OnOk, OnErr, IsOk, Vec, vec_len}
use Rattle.std.specs.Prelude.{vec_capacity}
use Rattle.std.specs.declared.alloc.AllocError.{AllocError}

-- the Vec has gained these bytes, `count` in number, at its end
pub record Gains {Z : Type 0} (bytes : List ℕ) (count : ℕ) (old new : Vec ℕ Z) : Type 0 where
  pub items : new.items ≡ old.items ++ bytes
  pub len : vec_len new ≡ vec_len old + count
  pub capacity : vec_capacity old ≤ vec_capacity new

-- These bytes, `count` in number, are appended, or memory was refused and the items stay; if the
-- Vec has the room, it isn't refused.
pub record Appends {Z : Type 0} (bytes : List ℕ) (count : ℕ)
    (answer : Result (Unit {0}) AllocError) (old new : Vec ℕ Z) : Type 0 where
  pub ok : OnOk answer (new.items ≡ old.items ++ bytes)
  pub len : OnOk answer (vec_len new ≡ vec_len old + count)
  pub err : OnErr answer (new.items ≡ old.items)
  pub capacity : vec_capacity old ≤ vec_capacity new
  pub succeeds : vec_len old + count ≤ vec_capacity old → IsOk answer
