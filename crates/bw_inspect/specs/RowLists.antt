-- Rows of a fixed size, one after another in a chunk's content.
use Rattle.std.specs.Prelude.{◌≡◌, ℕ, zero, suc, ◌+◌, ◌*◌, List, [], ◌∷◌, slice_range, Option, Some}
use Rattle.bw_model.specs.Reading as reading
use Rattle.bw_model.specs.Report.{content_of}
use Rattle.bw_inspect.specs.Contents.{ReadTo}

-- what n rows of this width say, from a place on
abbrev pub rows_at : {X : Type 0} → (List ℕ → X) → ℕ → List ℕ → ℕ → ℕ → List X
rows_at reported width c p zero = []
rows_at reported width c p (suc n) =
    reported (slice_range c p (p + width)) ∷ rows_at reported width c (p + width) n

-- one row was read, after this many bytes of a content
pub record HasRow {X : Type 0} (reported : List ℕ → X) (width : ℕ) (b : List ℕ) (e : reading.Entry)
    (done : ℕ) (row : X) (left : Option (List ℕ)) : Type 0 where
  pub row_is : row ≡ reported (slice_range (content_of b (Some e)) done (done + width))
  pub to : ReadTo b e (done + width) left

-- n rows were read, after the prefix of a content
pub record HasRows {X : Type 0} (reported : List ℕ → X) (width : ℕ) (b : List ℕ) (e : reading.Entry)
    (prefix n : ℕ) (rows : List X) (left : Option (List ℕ)) : Type 0 where
  pub rows_are : rows ≡ rows_at reported width (content_of b (Some e)) prefix n
  pub to : ReadTo b e (prefix + width * n) left
