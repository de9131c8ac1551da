use Rattle.bw_upload.proofs.TurnSteps.{out_none, out_end, out_more, out_over}
use Rattle.bw_upload.proofs.turn.hear_out.Goals as goal

pub loop-read-init : goal.loop-read-init
loop-read-init g c = λ x is broken. out_none g.R.Source g.W.Sink x _ _ _ is

pub returns-in-Some : goal.returns-in-Some
returns-in-Some g c = λ x is broken.
    let so_far = c.loop-read.invariant x is broken in
    rw c.break_end.ensures (out_end
    g.R.Source g.W.Sink x _ _ _ _ _ _ c.in-Some.end broken so_far c.in-Some.ensures)

pub loop-read-preserved : goal.loop-read-preserved
loop-read-preserved g c = λ x is broken.
    let so_far = c.loop-read.invariant x is broken in
    out_more g.R.Source g.W.Sink x _ _ _ _ _ _ broken so_far c.in_default.ensures

pub returns : goal.returns
returns g c = λ x is broken. out_over g.R.Source g.W.Sink x _ _ _ broken (c.loop-read.invariant x is broken)
