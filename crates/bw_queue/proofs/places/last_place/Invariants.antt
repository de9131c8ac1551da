use Rattle.std.proofs.Common.{◌≡◌, length, ◌≤◌}
use Rattle.std.specs.Path.{rfind_below}
use Rattle.bw_queue.proofs.places.last_place.Given as goal

-- after this place there is no such byte
abbrev pub invariant-loop-place : goal.invariant-loop-place
invariant-loop-place l = record {
  within : l.place ≤ length l.text;
  same : rfind_below l.byte l.text (length l.text) ≡ rfind_below l.byte l.text l.place;
}

abbrev pub decreases-loop-place : goal.decreases-loop-place
decreases-loop-place l = l.place
