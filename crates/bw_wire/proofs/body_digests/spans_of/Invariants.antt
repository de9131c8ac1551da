use Rattle.std.proofs.Common.{◌≡◌, ◌≤◌, length}
use Rattle.bw_digest.specs.Lanes.{InEachLane}
use Rattle.bw_wire.specs.BodyDigests.{span_at, IsSpanIn}
use Rattle.bw_wire.proofs.body_digests.spans_of.Given as goal

abbrev pub invariant-loop-lane : goal.invariant-loop-lane
invariant-loop-lane l =
    (l.place ≤ length l.block) × (length l.spans ≡ 8) × InEachLane (λ j. IsSpanIn l.block (span_at l.spans j))
