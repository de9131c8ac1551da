use Rattle.std.proofs.Common.{rules, ◌≡◌, ℕ, subst}
use Rattle.std.proofs.lemmas.Result.{err_from_is_err_and}
use Rattle.bw_recorder.proofs.PutSteps.{SoFar, all_put, so_far_more, some_put, too_many_put}
use Rattle.bw_recorder.proofs.packing.put_requests.Goals as goal

pub returns-in_err-put_next : goal.returns-in_err-put_next
returns-in_err-put_next g c =
    let answer = err_from_is_err_and c.from_residual.result c.from_residual.ensures.1 in
    rw (answer.1, answer.2) (some_put g.W.Sink c.loop-request._request c.args.opened.now.plan c.loop-request.opened.plan
    c.put_next.new.opened.plan (g.R.Source.left c.args.opened.now.reader) (g.R.Source.left c.loop-request.opened.reader)
    (g.R.Source.left c.put_next.new.opened.reader) c.args.out.now c.loop-request.out c.put_next.new.out
    c.in_err-put_next.field-0.0 c.loop-request.invariant c.in_err-put_next.ensures)

pub returns-then-branch : goal.returns-then-branch
returns-then-branch g c =
    all_put g.W.Sink c.loop-request._request c.args.opened.now.plan c.loop-request.opened.plan c.put_next.new.opened.plan
    (g.R.Source.left c.args.opened.now.reader) (g.R.Source.left c.loop-request.opened.reader)
    (g.R.Source.left c.put_next.new.opened.reader) c.args.out.now c.loop-request.out c.put_next.new.out
    c.in_ok-put_next.field-0 c.if-branch.true c.loop-request.invariant c.in_ok-put_next.ensures

pub loop-request-preserved : goal.loop-request-preserved
loop-request-preserved g c =
    so_far_more g.W.Sink c.loop-request._request c.args.opened.now.plan c.loop-request.opened.plan
    c.put_next.new.opened.plan (g.R.Source.left c.args.opened.now.reader) (g.R.Source.left c.loop-request.opened.reader)
    (g.R.Source.left c.put_next.new.opened.reader) c.args.out.now c.loop-request.out c.put_next.new.out
    c.in_ok-put_next.field-0 c.if-branch.false c.loop-request.invariant c.in_ok-put_next.ensures

pub returns : goal.returns
returns g c =
    let all : c.loop-request._request ≡ 16777217 = search rules in
    let left = g.R.Source.left in
    too_many_put g.W.Sink c.args.opened.now.plan c.loop-request.opened.plan (left c.args.opened.now.reader)
    (left c.loop-request.opened.reader) c.args.out.now c.loop-request.out
    (subst (λ (n : ℕ). SoFar g.W.Sink n c.args.opened.now.plan (left c.args.opened.now.reader) c.args.out.now
    c.loop-request.opened.plan (left c.loop-request.opened.reader) c.loop-request.out) all c.loop-request.invariant)
