use Rattle.bw_progress.specs.Pauses.{PausesInPieces}
use Rattle.bw_progress.proofs.pause.RenewingPausePause.pause.Given as goal

-- what is left makes it whole
abbrev pub invariant-loop-left : goal.invariant-loop-left
invariant-loop-left g l = (b : g.row.P.Denot) →
    PausesInPieces g.P.Pause.waits l.self.inner l.left b →
    PausesInPieces g.P.Pause.waits l.fn.self.inner l.fn.milliseconds b

abbrev pub decreases-loop-left : goal.decreases-loop-left
decreases-loop-left g l = l.left
