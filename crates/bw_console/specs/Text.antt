-- Text in lines.
use Rattle.std.specs.Prelude.{ℕ, List, [], ◌∷◌, ◌++◌}

-- a text and the byte that ends its line
abbrev pub as_line : List ℕ → List ℕ
as_line text = text ++ 10 ∷ []
