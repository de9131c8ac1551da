use Rattle.std.proofs.Common.{◌∙◌, ◌∷◌, ap, arith, inl, inr, refl, sym}
use Rattle.std.proofs.lemmas.Result.{err_from_is_err_and}
use Rattle.sha2.specs.Sha256.{sha256}
use Rattle.bw_model.specs.Take.{Request}
use Rattle.bw_send_file.specs.declared.fault.FeedFault.{FeedFault}
use Rattle.bw_send_file.proofs.ResumedFeeds.{given_is, none_is_given, opening_at_block, opening_at_end, opens_after_one}
use Rattle.bw_upload.specs.declared.feed.Given.TheVariants as gives
use Rattle.bw_send_file.proofs.SkipSteps.{blockless_one, given_as, stops_opening}
use Rattle.bw_send_file.proofs.resumed_opening.opening_of.Goals as goal

pub loop-number-preserved : goal.loop-number-preserved
loop-number-preserved g c = record {
  known = λ requests left.
      opens_after_one c.args.name.now c.loop-number.frames.items c.put_frame.new.frames.items c.loop-number.number requests _ _
      c.in-Request.request c.in-None.ensures
      (given_is FeedFault _ _ c.in_ok-request.field-0 c.in-Request.request c.in-Request.is c.in_ok-request.ensures.left)
      c.in_ok-put_frame-in-None.ensures.ok (c.loop-number.invariant.known requests left);
  gives = blockless_one g.X.Feed c.loop-number.number _ _ _ c.in-Request.request c.loop-number.invariant.gives
      (given_as g.X.Feed _ _ c.in_ok-request.field-0 (gives.Request c.in-Request.request) c.in-Request.is
      (record { received = c.in_ok-request.ensures.received; left = c.in_ok-request.ensures.left })) c.in-None.ensures;
}

pub returns-in-Some-clause-ok : goal.returns-in-Some-clause-ok
returns-in-Some-clause-ok g c = λ requests left.
    let block = c.in-Some.ensures in
    let at = opening_at_block c.args.name.now c.loop-number.frames.items c.loop-number.number requests _ block.0
    (c.loop-number.invariant.known requests left)
    (λ rs here.
    let next = given_is FeedFault _ _ c.in_ok-request.field-0 c.in-Request.request c.in-Request.is c.in_ok-request.ensures.left rs here in (
      next.0,
      next.1 ∙ ap (λ (r : Request). r ∷ next.0) block.1,
    )) in
    record {
      digest = c.opening_before.ensures.digest ∙ ap sha256 (c.as_slice.ensures.value ∙ sym at.0);
      block = c.opening_before.ensures.block ∙ block.2 ∙ sym at.1;
    }

pub returns-in-End-clause-ok : goal.returns-in-End-clause-ok
returns-in-End-clause-ok g c = λ requests left.
    let at = opening_at_end c.args.name.now c.loop-number.frames.items c.loop-number.number requests _
    (c.loop-number.invariant.known requests left)
    (none_is_given FeedFault _ _ c.in_ok-request.field-0 c.in-End.is c.in_ok-request.ensures.left) in
    record {
      digest = c.opening_before-in-End.ensures.digest ∙ ap sha256 (c.as_slice-in-End.ensures.value ∙ sym at.0);
      block = c.opening_before-in-End.ensures.block ∙ sym at.1;
    }

pub returns-in-NotYet-clause-err : goal.returns-in-NotYet-clause-err
returns-in-NotYet-clause-err g c =
    stops_opening g.X.Feed c.loop-number.number _ _ _ c.loop-number.invariant.gives (inr (inl (
      _,
      given_as g.X.Feed _ _ _ _ c.in-NotYet.is
          (record { received = c.in_ok-request.ensures.received; left = c.in_ok-request.ensures.left }),
      refl,
    )))

pub returns-clause-err : goal.returns-clause-err
returns-clause-err g c =
    stops_opening g.X.Feed c.loop-number.number _ _ _ c.loop-number.invariant.gives
    (inr (inr (inl (omega (arith, c.loop-number-test.false), refl))))

pub returns-in_err-request-clause-err : goal.returns-in_err-request-clause-err
returns-in_err-request-clause-err g c =
    let answer = err_from_is_err_and c.from_residual.result c.from_residual.ensures.1 in
    rw (answer.1, answer.2) (stops_opening g.X.Feed c.loop-number.number _ _ _ c.loop-number.invariant.gives
    (inl (_, record { received = c.in_err-request.ensures.received; left = c.in_err-request.ensures.left })))

pub returns-in_err-put_frame-in-None-clause-err : goal.returns-in_err-put_frame-in-None-clause-err
returns-in_err-put_frame-in-None-clause-err g c =
    let answer = err_from_is_err_and c.from_residual-in_err-put_frame-in-None.result c.from_residual-in_err-put_frame-in-None.ensures.1 in
    rw (answer.1, answer.2) (stops_opening g.X.Feed c.loop-number.number _ _ _ c.loop-number.invariant.gives
    (inr (inr (inr c.in_err-put_frame-in-None.ensures.err))))
