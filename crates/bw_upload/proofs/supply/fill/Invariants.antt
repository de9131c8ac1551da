use Rattle.bw_upload.specs.WindowFills.{Filling}
use Rattle.bw_upload.specs.Supplies.{IsFilling}
use Rattle.bw_upload.proofs.FillSteps.{FilledSoFar}
use Rattle.bw_upload.proofs.supply.fill.Given as goal

abbrev pub invariant-loop-question : goal.invariant-loop-question
invariant-loop-question g l =
    (x : Filling g.row.F.Denot g.row.P.Denot) → IsFilling x l.fn.supply l.fn.feed l.fn.pause →
    FilledSoFar g.F.Feed g.P.Pause l._question x l.supply l.feed l.pause
