-- What is read of a file that is still written.
use Rattle.std.specs.Prelude.{◌≡◌, ℕ, List, ◌++◌, take, Option, Some}

-- the first bytes of a buffer went on with these bytes, of which those that aren't held are to come
pub record ReadsAfter (room : List ℕ) (held : ℕ) (xs room' : List ℕ) (held' : ℕ)
    (left : Option (List ℕ)) : Type 0
  where
    pub rest : List ℕ
    pub left_is : left ≡ Some rest
    pub together : take held' room' ++ rest ≡ take held room ++ xs
