use Rattle.std.proofs.Common.{◌≡◌, ◌≤◌, ◌<◌, ℕ, Some, length, slice_get}
use Rattle.bw_serve_status.specs.declared.growth.Growth.{Growth}
use Rattle.bw_serve_status.specs.declared.name_tally.NameTally.{NameTally}
use Rattle.bw_serve_status.specs.Growths.{growth_noted}
use Rattle.bw_serve_status.proofs.growth.note_growth.Given as goal

abbrev pub invariant-loop-place : goal.invariant-loop-place
invariant-loop-place l =
    (length l.growth ≡ length l.initial.growth)
    × ((k : ℕ) (t : NameTally) (g : Growth) → k < l.place → slice_get l.fn.names k ≡ Some t →
    slice_get l.initial.growth k ≡ Some g → slice_get l.growth k ≡ Some (growth_noted l.fn.now t g))
    × ((k : ℕ) → l.place ≤ k → slice_get l.growth k ≡ slice_get l.initial.growth k)
    × ((k : ℕ) → length l.fn.names ≤ k → slice_get l.growth k ≡ slice_get l.initial.growth k)
