use Rattle.std.proofs.Common.{◌∙◌, Bool, Ok, inl, inr, rules, subst, sym}
use Rattle.std.proofs.lemmas.Result.{err_from_is_err_and}
use Rattle.bw_upload.specs.Supplies.{FollowsFeed}
use Rattle.bw_upload.proofs.FillSteps.{fills_none, fills_given, fills_waiting, fills_later, fills_stopped}
use Rattle.bw_upload.proofs.FillSteps.{full_pending, lacks_sender, lent_some, lent_none}
use Rattle.bw_upload.proofs.supply.fill_once.Goals as goal

pub returns-then-supply : goal.returns-then-supply
returns-then-supply g c = λ x is.
    fills_none g.F.Feed g.P.Pause x _ _ _ is (inl (sym is.ended ∙ c.if-supply.true))

pub returns-then-is_full : goal.returns-then-is_full
returns-then-is_full g c = λ x is.
    fills_none g.F.Feed g.P.Pause x _ _ _ is
    (inr (full_pending x.sender (sym (c.is_full.ensures x.sender is.sender) ∙ c.if-is_full.true)))

pub returns-in_err-follow : goal.returns-in_err-follow
returns-in_err-follow g c = λ x is.
    let answer = err_from_is_err_and c.from_residual.result c.from_residual.ensures.1 in
    rw (answer.1, answer.2) (fills_stopped
    g.F.Feed g.P.Pause c.in_err-follow.field-0.0 c.next.result x c.args.supply.now c.follow.new.supply
    c.args.feed.now c.next.new.self c.args.pause.now is
    (record {
      goes_on = sym is.ended ∙ c.if-supply.false;
      room = sym (c.is_full.ensures x.sender is.sender) ∙ c.if-is_full.false;
    })
    (record { received = c.next.ensures.received; left = c.next.ensures.left }) (c.in_err-follow.ensures x.sender is.sender))

pub returns-then-branch : goal.returns-then-branch
returns-then-branch g c = λ x is.
    fills_given g.F.Feed g.P.Pause c.next.result x c.args.supply.now c.follow.new.supply
    c.args.feed.now c.next.new.self c.args.pause.now is
    (record {
      goes_on = sym is.ended ∙ c.if-supply.false;
      room = sym (c.is_full.ensures x.sender is.sender) ∙ c.if-is_full.false;
    })
    (record { received = c.next.ensures.received; left = c.next.ensures.left })
    (subst (λ (b : Bool). FollowsFeed (Ok b) c.next.result x.sender c.args.supply.now c.follow.new.supply)
    c.if-branch.true (c.in_ok-follow.ensures x.sender is.sender))

pub returns-then-is_some : goal.returns-then-is_some
returns-then-is_some g c = λ x is.
    let follows = subst (λ (b : Bool). FollowsFeed (Ok b) c.next.result x.sender c.args.supply.now c.follow.new.supply)
    c.if-branch.false (c.in_ok-follow.ensures x.sender is.sender) in
    let now = lacks_sender g.F.Feed g.P.Pause c.next.result x.sender c.args.supply.now c.follow.new.supply follows
    is.sender in
    fills_later g.F.Feed g.P.Pause c.next.result x c.args.supply.now c.follow.new.supply
    c.args.feed.now c.next.new.self c.args.pause.now is
    (record {
      goes_on = sym is.ended ∙ c.if-supply.false;
      room = sym (c.is_full.ensures x.sender is.sender) ∙ c.if-is_full.false;
    })
    (record { received = c.next.ensures.received; left = c.next.ensures.left }) follows
    (lent_some c.pending.result _ (c.pending.ensures.value x.sender now) (search rules))

pub returns : goal.returns
returns g c = λ x is.
    let follows = subst (λ (b : Bool). FollowsFeed (Ok b) c.next.result x.sender c.args.supply.now c.follow.new.supply)
    c.if-branch.false (c.in_ok-follow.ensures x.sender is.sender) in
    let now = lacks_sender g.F.Feed g.P.Pause c.next.result x.sender c.args.supply.now c.follow.new.supply follows
    is.sender in
    fills_waiting g.F.Feed g.P.Pause c.next.result x c.args.supply.now c.follow.new.supply
    c.args.feed.now c.next.new.self c.args.pause.now c.pause.new.self is
    (record {
      goes_on = sym is.ended ∙ c.if-supply.false;
      room = sym (c.is_full.ensures x.sender is.sender) ∙ c.if-is_full.false;
    })
    (record { received = c.next.ensures.received; left = c.next.ensures.left }) follows
    (lent_none c.pending.result _ (c.pending.ensures.value x.sender now) (search rules)) c.pause.ensures
