-- Two headers of a take; one field of `bext` is set between them.
use Rattle.std.specs.Prelude.{◌≡◌, ◌⊎◌, ℕ, ◌+◌, ◌≤◌, Some, List, ◌++◌, length, take, drop}
use Rattle.std.specs.Prelude.{slice_range}
use Rattle.bw_layout.specs.Places.{range_of}

-- these headers have the same bytes in a range
abbrev pub IsSameIn : ℕ × ℕ → List ℕ → List ℕ → Type 0
IsSameIn range before after =
    slice_range before range.0 (range.0 + range.1) ≡ slice_range after range.0 (range.0 + range.1)

-- These headers differ only in the range of this tag; an earlier tag has the same range, or the
-- bytes in its range are the same.
pub record DiffersInField (tag : ℕ) (before after : List ℕ) : Type 0 where
  pub range : ℕ × ℕ
  pub known : range_of tag ≡ Some range
  pub long : 690 ≤ length after
  pub alike :
      let end = range.0 + range.1 in
      after ≡ take range.0 before ++ slice_range after range.0 end ++ drop end before
  pub earlier : (other : ℕ) (at : ℕ × ℕ) → other ≤ tag → range_of other ≡ Some at →
      (at ≡ range) ⊎ IsSameIn at before after
