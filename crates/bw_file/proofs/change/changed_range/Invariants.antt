use Rattle.std.proofs.Common.{◌≡◌, ℕ, ◌<◌, Some}
use Rattle.bw_layout.specs.Places.{range_of}
use Rattle.bw_file.specs.OneField.{IsSameIn}
use Rattle.bw_file.proofs.change.changed_range.Given as goal

abbrev pub invariant-loop-tag : goal.invariant-loop-tag
invariant-loop-tag l = (t : ℕ) (at : ℕ × ℕ) → t < l.tag → range_of t ≡ Some at → IsSameIn at l.before l.after
