-- Samples that were read and aren't given yet.
use Rattle.std.specs.Prelude.{◌≡◌, ℕ, List, ◌++◌, Option, Some}

-- of room for so many bytes
pub record HeldSamples : Type 0 where
  pub size : ℕ
  pub held : List ℕ

-- some of these bytes are held after what was held, and the others are to come
pub record HoldsMore (old : HeldSamples) (xs : List ℕ) (new : HeldSamples)
    (left : Option (List ℕ)) : Type 0
  where
    pub rest : List ℕ
    pub left_is : left ≡ Some rest
    pub together : new.held ++ rest ≡ old.held ++ xs
