-- Places and sizes whose sums don't overflow.
use Rattle.std.specs.Prelude.{◌^◌, ◌≤◌, ◌<◌, Option, Some, None}
use Rattle.bw_repair.specs.declared.search.DataHead.{DataHead}

-- the head follows the outer header, and no sum of its places and sizes overflows 64 bits
pub record IsNear (h : DataHead) : Type 0 where
  pub following : 12 ≤ h.place
  pub place : h.place < 2 ^ 62
  pub rest : h.rest < 2 ^ 62

abbrev pub AreNear : Option DataHead → Type 0
AreNear None = Unit {0}
AreNear (Some h) = IsNear h
