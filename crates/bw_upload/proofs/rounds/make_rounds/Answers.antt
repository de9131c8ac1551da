use Rattle.std.proofs.Common.{◌≡◌, ◌∙◌, ◌∷◌, ◌++◌, ◌<◌, [], length, refl, inl, inr, arith, rules}
use Rattle.std.proofs.lemmas.List.{length-append}
use Rattle.bw_upload.specs.SendState.{hear_in, offer_more}
use Rattle.bw_upload.proofs.OfferSteps.{more_keeps}
use Rattle.bw_upload.proofs.RoundSteps.{heard_dispatch, one_round, settled, unsettled}
use Rattle.bw_upload.proofs.ReportedLinks.{rounds_reported}
use Rattle.bw_upload.proofs.rounds.make_rounds.Goals as goal

pub loop-round-init : goal.loop-round-init
loop-round-init g c = λ x k from.
    record { heard = []; y = x; is = k; went = (refl, refl); counted = refl; from = from }

pub loop-round-preserved : goal.loop-round-preserved
loop-round-preserved g c = λ x k from.
    let o = c.loop-round.invariant x k from in
    let offered = c.in_ok-offer_more_of.ensures o.y o.is o.from in
    let made = c.in_ok-make_round.ensures (offer_more o.y).sender offered.sender in
    record {
      heard = o.heard ++ made.0 ∷ [];
      y = hear_in (offer_more o.y) made.0;
      is = heard_dispatch (offer_more o.y) made.0 _ _ offered made.1;
      went = one_round _ _ _ x o.heard o.y made.0 _ _ _ o.went
          (unsettled c.pending.result _ (c.pending.ensures.value (offer_more o.y).sender offered.sender)
          (search rules)) made.2;
      counted = let n = length-append o.heard (made.0 ∷ []) in let e = o.counted in omega (arith, n, e);
      from = more_keeps o.y ∙ o.from;
    }

pub returns-then-is_none : goal.returns-then-is_none
returns-then-is_none g c = λ x k from.
    let o = c.loop-round.invariant x k from in
    let offered = c.in_ok-offer_more_of.ensures o.y o.is o.from in
    let before : length o.heard < c.args.rounds =
    let e = o.counted in let t = c.loop-round-test.true in omega (arith, e, t) in (
      offer_more o.y,
      offered,
      record {
        heard = o.heard;
        following = o.y;
        went = o.went;
        reported = rounds_reported _ _ _ x o.heard o.y _ _ o.went;
        ends = inr (
          before,
          refl,
          settled c.pending.result _ (c.pending.ensures.value (offer_more o.y).sender offered.sender) (search rules),
        );
      },
    )

pub returns : goal.returns
returns g c = λ x k from.
    let o = c.loop-round.invariant x k from in
    let all : length o.heard ≡ c.args.rounds =
    let e = o.counted in
    let past = c.loop-round-test.false in
    let within = c.loop-round.auto.round-end in
    omega (arith, e, past, within) in
    let reported = rounds_reported _ _ _ x o.heard o.y _ _ o.went in
    (o.y, o.is, record { heard = o.heard; following = o.y; went = o.went; reported = reported; ends = inl (all, refl) })
