use Rattle.std.proofs.Common.{true, false, None, Some, arith, sym, ◌∙◌}
use Rattle.std.proofs.lemmas.Result.{err_from_is_err_and}
use Rattle.bw_upload.proofs.FillSteps.{done_as}
use Rattle.bw_upload.proofs.VisitSteps.{visit_begins, visit_lacks, visit_turned, visit_left, visit_refused}
use Rattle.bw_upload.proofs.VisitSteps.{visit_stopped, visit_done, visit_more, visit_limited}
use Rattle.bw_upload.proofs.visit.visit.Goals as goal

pub returns-in_default : goal.returns-in_default
returns-in_default g c = λ most x b.
    visit_lacks g.F.Feed g.P.Pause g.D.Dial g.D.Reader.Source g.D.Writer.Sink most x _ _ _ _ b

pub loop-read-init : goal.loop-read-init
loop-read-init g c = λ most x b.
    visit_begins g.F.Feed g.P.Pause g.D.Dial g.D.Reader.Source g.D.Writer.Sink most x _ _ _ _ _ b c.in-Ok.ensures.next
    c.in-Ok.ensures.heard

pub returns-in-Some : goal.returns-in-Some
returns-in-Some g c = λ most x b.
    let v = visit_turned g.F.Feed g.P.Pause g.D.Dial g.D.Reader.Source g.D.Writer.Sink most (Some c.in-Some.end) c.loop-read._read x
    c.loop-read.supply c.loop-read.talk c.take_turn-end.new.talk c.loop-read.link c.take_turn-end.new.link
    c.take_turn-end.new.sender c.loop-read.feed c.loop-read.pause (c.loop-read.invariant most x b) c.in-Some.ensures in
    rw c.unless_memory.ensures (visit_left
    g.F.Feed g.P.Pause g.D.Dial g.D.Reader.Source g.D.Writer.Sink most c.in-Some.end c.loop-read._read x _ _ _ _ _ v)

pub returns-then-has_refused : goal.returns-then-has_refused
returns-then-has_refused g c = λ most x b.
    let v = visit_turned g.F.Feed g.P.Pause g.D.Dial g.D.Reader.Source g.D.Writer.Sink most None c.loop-read._read x
    c.loop-read.supply c.loop-read.talk c.take_turn-end.new.talk c.loop-read.link c.take_turn-end.new.link
    c.take_turn-end.new.sender c.loop-read.feed c.loop-read.pause (c.loop-read.invariant most x b) c.in_default-end.ensures in
    visit_refused g.F.Feed g.P.Pause g.D.Dial g.D.Reader.Source g.D.Writer.Sink most c.loop-read._read x _ _ _ _ _ v
    (sym (c.has_refused.ensures v.after.filling.sender v.filling.sender) ∙ c.if-has_refused.true)

pub returns-in_err-fill : goal.returns-in_err-fill
returns-in_err-fill g c = λ most x b.
    let answer = err_from_is_err_and c.from_residual.result c.from_residual.ensures.1 in
    let v = visit_turned g.F.Feed g.P.Pause g.D.Dial g.D.Reader.Source g.D.Writer.Sink most None c.loop-read._read x
    c.loop-read.supply c.loop-read.talk c.take_turn-end.new.talk c.loop-read.link c.take_turn-end.new.link
    c.take_turn-end.new.sender c.loop-read.feed c.loop-read.pause (c.loop-read.invariant most x b) c.in_default-end.ensures in
    let u = c.in_err-fill.ensures v.after.filling v.filling in
    rw (answer.1, answer.2) (visit_stopped
    g.F.Feed g.P.Pause g.D.Dial g.D.Reader.Source g.D.Writer.Sink most c.in_err-fill.field-0.0 c.loop-read._read x
    _ _ _ _ _ _ _ _ v u)

pub returns-then-is_done : goal.returns-then-is_done
returns-then-is_done g c = λ most x b.
    let v = visit_turned g.F.Feed g.P.Pause g.D.Dial g.D.Reader.Source g.D.Writer.Sink most None c.loop-read._read x
    c.loop-read.supply c.loop-read.talk c.take_turn-end.new.talk c.loop-read.link c.take_turn-end.new.link
    c.take_turn-end.new.sender c.loop-read.feed c.loop-read.pause (c.loop-read.invariant most x b) c.in_default-end.ensures in
    let u = c.in_ok-fill.ensures v.after.filling v.filling in
    visit_done g.F.Feed g.P.Pause g.D.Dial g.D.Reader.Source g.D.Writer.Sink most c.loop-read._read x _ _ _ _ c.part.new.writer
    _ _ _ _ v u
    (done_as u.after true u.by.0 (sym (c.is_done.ensures u.after.sender u.by.0.sender) ∙ c.if-is_done.true)) c.part.ensures

pub loop-read-preserved : goal.loop-read-preserved
loop-read-preserved g c = λ most x b.
    let v = visit_turned g.F.Feed g.P.Pause g.D.Dial g.D.Reader.Source g.D.Writer.Sink most None c.loop-read._read x
    c.loop-read.supply c.loop-read.talk c.take_turn-end.new.talk c.loop-read.link c.take_turn-end.new.link
    c.take_turn-end.new.sender c.loop-read.feed c.loop-read.pause (c.loop-read.invariant most x b) c.in_default-end.ensures in
    let u = c.in_ok-fill.ensures v.after.filling v.filling in
    visit_more g.F.Feed g.P.Pause g.D.Dial g.D.Reader.Source g.D.Writer.Sink most c.loop-read._read x _ _ _ _ _ _ _ _ v u
    (sym (c.has_refused.ensures v.after.filling.sender v.filling.sender) ∙ c.if-has_refused.false)
    (done_as u.after false u.by.0 (sym (c.is_done.ensures u.after.sender u.by.0.sender) ∙ c.if-is_done.false))

pub returns : goal.returns
returns g c = λ most x b.
    visit_limited g.F.Feed g.P.Pause g.D.Dial g.D.Reader.Source g.D.Writer.Sink most c.loop-read._read x _ _ _ _ _
    (c.loop-read.invariant most x b) (omega (arith, c.loop-read-test.false))
