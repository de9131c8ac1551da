-- The parts after a kind byte.
use Rattle.std.specs.Prelude.{ℕ, ◌+◌, ◌≤◌, List, length, slice_index}
use Rattle.bw_model.specs.Wire.{after_name}

-- there are as many bytes as the name's length says
abbrev pub HasName : List ℕ → Type 0
HasName rest = 1 + slice_index rest 0 ≤ length rest

-- and a number after them
pub record HasAddress (rest : List ℕ) : Type 0 where
  pub named : HasName rest
  pub numbered : 4 ≤ length (after_name rest)
