use Rattle.std.proofs.Common.{◌≡◌, ◌+◌, drop}
use Rattle.std.specs.List.{count_by}
use Rattle.bw_status.specs.Metrics.{in_state}
use Rattle.bw_status.proofs.metrics.count_in.Given as goal

abbrev pub invariant-loop-take : goal.invariant-loop-take
invariant-loop-take l = l.count + count_by (in_state l.fn.state) (drop l.take-index l.takes)
    ≡ count_by (in_state l.fn.state) l.takes
