use Rattle.std.proofs.Common.{[], length}
use Rattle.bw_ports.specs.StateReadings.{lines_after}
use Rattle.bw_live.specs.MarkLooks.{keeping_of}
use Rattle.bw_live.proofs.SeenSteps.{SeesInTurn}
use Rattle.bw_live.proofs.keeper.MarkKeeper.take_all.Given as goal

abbrev pub invariant-loop-line : goal.invariant-loop-line
invariant-loop-line g l =
    SeesInTurn g.F.MarkFiles g.E.Sink l.frame (lines_after [] l.fn.bytes) (lines_after [] l.rest)
    (keeping_of l.initial.self) (keeping_of l.self)

abbrev pub decreases-loop-line : goal.decreases-loop-line
decreases-loop-line g l = length l.rest
