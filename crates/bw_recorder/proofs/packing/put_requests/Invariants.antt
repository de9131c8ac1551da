use Rattle.bw_recorder.proofs.PutSteps.{SoFar}
use Rattle.bw_recorder.proofs.packing.put_requests.Given as goal

abbrev pub invariant-loop-request : goal.invariant-loop-request
invariant-loop-request g l =
    SoFar g.W.Sink l._request l.fn.opened.plan (g.R.Source.left l.fn.opened.reader) l.fn.out l.opened.plan
    (g.R.Source.left l.opened.reader) l.out
