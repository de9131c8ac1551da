use Rattle.std.proofs.Common.{◌≡◌, ◌+◌, ◌-◌, ◌<◌, ◌^◌, drop, max, min, sum}
use Rattle.bw_wire.specs.BodyDigests.{lengths_of, longest_of}
use Rattle.bw_wire.proofs.body_digests.fills_lanes.Given as goal

abbrev pub invariant-loop-body : goal.invariant-loop-body
invariant-loop-body l = record {
  fits : l.total < 2 ^ 64;
  total : min (l.total + sum (lengths_of (drop l.body-index l.bodies))) (2 ^ 64 - 1)
      ≡ min (sum (lengths_of l.bodies)) (2 ^ 64 - 1);
  longest : max l.longest (longest_of (lengths_of (drop l.body-index l.bodies))) ≡ longest_of (lengths_of l.bodies);
}
