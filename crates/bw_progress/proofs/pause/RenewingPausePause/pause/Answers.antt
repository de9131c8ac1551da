use Rattle.std.proofs.Common.{◌≡◌, ℕ, ◌+◌, ◌-◌, arith, subst}
use Rattle.bw_progress.specs.Pauses.{PausesInPieces}
use Rattle.bw_progress.proofs.Pieces.{pause_before, whole_pause}
use Rattle.bw_progress.proofs.pause.RenewingPausePause.pause.Goals as goal

pub loop-left-preserved : goal.loop-left-preserved
loop-left-preserved g c = λ b rest.
    let more = c.loop-left-test.true in
    let split : 200 + (c.loop-left.left - 200) ≡ c.loop-left.left = omega (arith, more) in
    c.loop-left.invariant b
    (subst (λ (k : ℕ). PausesInPieces g.P.Pause.waits c.loop-left.self.inner k b) split
    (pause_before g.P.Pause.waits _ _ b 200 (c.loop-left.left - 200) c.pause.ensures rest))

pub returns : goal.returns
returns g c = c.loop-left.invariant _ (whole_pause g.P.Pause.waits _ _ c.loop-left.left c.pause-2.ensures)
