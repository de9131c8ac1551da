-- The disk of the system.
use Rattle.std.specs.Prelude.{ℕ}

-- what is seen of it: the runtime that its calls are made of, and the counts
pub record OfSystem (R : Type 0) : Type 0 where
  pub rt : R
  pub calls : ℕ
  pub failures : ℕ
