use Rattle.std.proofs.Common.{◌∙◌, inl, inr, sym}
use Rattle.std.proofs.lemmas.Result.{err_from_is_err_and}
use Rattle.bw_send_file.proofs.ResumedFeeds.{given_is, one_skipped}
use Rattle.bw_send_file.proofs.SkipSteps.{fails_first, given_as, lacks_close, lacks_more, passes_more}
use Rattle.bw_upload.specs.declared.feed.Given.TheVariants as gives
use Rattle.bw_send_file.proofs.skipping.skip.Goals as goal

pub loop-skipped-preserved : goal.loop-skipped-preserved
loop-skipped-preserved g c =
    let p = c.loop-skipped.invariant.passes in
    record {
      known = λ requests left.
          one_skipped _ requests _ _ c.in-Request.request (sym c.is_close.ensures ∙ c.if-is_close.false)
          (given_is g.row.X-Fault.Denot _ _ c.in_ok-request.field-0 c.in-Request.request c.in-Request.is c.in_ok-request.ensures.left)
          (c.loop-skipped.invariant.known requests left);
      passes = (
        _,
        passes_more g.X.Feed c.loop-skipped._skipped p.0 c.args.feed.now c.loop-skipped.feed c.next.new.self
            c.in-Request.request p.1
            (given_as g.X.Feed _ _ c.in_ok-request.field-0 (gives.Request c.in-Request.request) c.in-Request.is
            (record { received = c.in_ok-request.ensures.received; left = c.in_ok-request.ensures.left }))
            (sym c.is_close.ensures ∙ c.if-is_close.false),
      );
    }

pub returns-then-is_close-clause-ok : goal.returns-then-is_close-clause-ok
returns-then-is_close-clause-ok g c =
    let p = c.loop-skipped.invariant.passes in
    lacks_close g.X.Feed c.loop-skipped._skipped c.args.count p.0 _ _ _ c.in-Request.request c.loop-skipped-test.true p.1
    (given_as g.X.Feed _ _ c.in_ok-request.field-0 (gives.Request c.in-Request.request) c.in-Request.is
    (record { received = c.in_ok-request.ensures.received; left = c.in_ok-request.ensures.left }))
    (sym c.is_close.ensures ∙ c.if-is_close.true)

pub returns-in-NotYet-clause-ok : goal.returns-in-NotYet-clause-ok
returns-in-NotYet-clause-ok g c =
    let p = c.loop-skipped.invariant.passes in
    lacks_more g.X.Feed c.loop-skipped._skipped c.args.count p.0 _ _ _ c.loop-skipped-test.true p.1
    (inr (given_as g.X.Feed _ _ _ _ c.in-NotYet.is
    (record { received = c.in_ok-request.ensures.received; left = c.in_ok-request.ensures.left })))

pub returns-in-End-clause-ok : goal.returns-in-End-clause-ok
returns-in-End-clause-ok g c =
    let p = c.loop-skipped.invariant.passes in
    lacks_more g.X.Feed c.loop-skipped._skipped c.args.count p.0 _ _ _ c.loop-skipped-test.true p.1
    (inl (given_as g.X.Feed _ _ _ _ c.in-End.is
    (record { received = c.in_ok-request.ensures.received; left = c.in_ok-request.ensures.left })))

pub returns-in_err-request-clause-err : goal.returns-in_err-request-clause-err
returns-in_err-request-clause-err g c =
    let answer = err_from_is_err_and c.from_residual.result c.from_residual.ensures.1 in
    let p = c.loop-skipped.invariant.passes in
    rw (answer.1, answer.2) (fails_first g.X.Feed c.loop-skipped._skipped c.args.count p.0 _ _ _ _ c.loop-skipped-test.true p.1
    (record { received = c.in_err-request.ensures.received; left = c.in_err-request.ensures.left }))
