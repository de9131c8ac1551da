-- What is put at a place of a list.
use Rattle.std.specs.Prelude.{◌≡◌, ◌≢◌, ℕ, List, Some, slice_get}

-- this is at the place then, and every other is as it was
pub record PutsAt {X : Type 0} (xs : List X) (i : ℕ) (x : X) (ys : List X) : Type 0 where
  pub there : slice_get ys i ≡ Some x
  pub elsewhere : (j : ℕ) → j ≢ i → slice_get ys j ≡ slice_get xs j
