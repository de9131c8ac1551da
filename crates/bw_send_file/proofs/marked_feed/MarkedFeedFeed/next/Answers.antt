use Rattle.std.proofs.Common.{◌∙◌, Ok, Err, refl, sym, ap, subst, arith, inr}
use Rattle.std.specs.Prelude.{option_to_list}
use Rattle.bw_upload.specs.Feeds.{FeedsOf}
use Rattle.bw_upload.specs.declared.feed.Given.TheVariants as gives
use Rattle.bw_send_file.specs.declared.fault.FeedFault.{FeedFault}
use Rattle.bw_send_file.specs.Marked.{marked_state}
use Rattle.bw_send_file.proofs.MarkedSteps.{passed_on}
use Rattle.bw_send_file.proofs.MarkedWaits.{none_wait}
use Rattle.bw_send_file.proofs.marked_feed.MarkedFeedFeed.next.Goals as goal

pub give-requires : goal.give-requires
give-requires g c =
    c.look.ensures.waits ∙ none_wait c.args.self.now.marks.items c.args.self.now.given _
    (omega (arith, c.if-self-len.false, c.len.ensures)) (ap option_to_list c.take.ensures.after)

pub returns-in-Ok-NotYet-clause-received : goal.returns-in-Ok-NotYet-clause-received
returns-in-Ok-NotYet-clause-received g c = inr (record {
  none = none_wait c.args.self.now.marks.items c.args.self.now.given _
      (omega (arith, c.if-self-len.false, c.len.ensures)) (ap option_to_list (sym c.take.ensures.value ∙ c.in_default.is));
  asked = Ok gives.NotYet;
  asks = subst (λ f. g.X.Feed.gives f (Ok gives.NotYet) c.next.new.self) c.look.ensures.held.feed
      (rw c.in-Ok-NotYet.field-0-is at c.in-Ok-NotYet.ensures.received);
  passed = (
    refl,
    c.look.ensures.waits ∙ none_wait c.args.self.now.marks.items c.args.self.now.given _
        (omega (arith, c.if-self-len.false, c.len.ensures)) (ap option_to_list c.take.ensures.after),
  );
  known = c.look.ensures.held.known;
})

pub returns-in-Ok-NotYet-clause-left : goal.returns-in-Ok-NotYet-clause-left
returns-in-Ok-NotYet-clause-left g c = λ requests left.
    passed_on g.X.Feed g.M.Marker (marked_state c.args.self.now) (record {
      feed = c.next.new.self;
      marker = c.look.new.self.marker;
      waiting = (marked_state c.look.new.self).waiting;
    }) (Ok gives.NotYet) (Ok gives.NotYet) requests
    (none_wait c.args.self.now.marks.items c.args.self.now.given _
    (omega (arith, c.if-self-len.false, c.len.ensures)) (ap option_to_list (sym c.take.ensures.value ∙ c.in_default.is)))
    (λ rs l. (rw c.in-Ok-NotYet.field-0-is at c.in-Ok-NotYet.ensures.left) rs
    (subst (λ f. g.X.Feed.left f rs) (sym c.look.ensures.held.feed) l)) (
      refl,
      c.look.ensures.waits ∙ none_wait c.args.self.now.marks.items c.args.self.now.given _
          (omega (arith, c.if-self-len.false, c.len.ensures)) (ap option_to_list c.take.ensures.after),
    )
    c.look.ensures.held.known left

pub returns-in-Ok-End-clause-received : goal.returns-in-Ok-End-clause-received
returns-in-Ok-End-clause-received g c = inr (record {
  none = none_wait c.args.self.now.marks.items c.args.self.now.given _
      (omega (arith, c.if-self-len.false, c.len.ensures)) (ap option_to_list (sym c.take.ensures.value ∙ c.in_default.is));
  asked = Ok gives.End;
  asks = subst (λ f. g.X.Feed.gives f (Ok gives.End) c.next.new.self) c.look.ensures.held.feed
      (rw c.in-Ok-End.field-0-is at c.in-Ok-End.ensures.received);
  passed = (
    refl,
    c.look.ensures.waits ∙ none_wait c.args.self.now.marks.items c.args.self.now.given _
        (omega (arith, c.if-self-len.false, c.len.ensures)) (ap option_to_list c.take.ensures.after),
  );
  known = c.look.ensures.held.known;
})

pub returns-in-Ok-End-clause-left : goal.returns-in-Ok-End-clause-left
returns-in-Ok-End-clause-left g c = λ requests left.
    passed_on g.X.Feed g.M.Marker (marked_state c.args.self.now) (record {
      feed = c.next.new.self;
      marker = c.look.new.self.marker;
      waiting = (marked_state c.look.new.self).waiting;
    }) (Ok gives.End) (Ok gives.End) requests
    (none_wait c.args.self.now.marks.items c.args.self.now.given _
    (omega (arith, c.if-self-len.false, c.len.ensures)) (ap option_to_list (sym c.take.ensures.value ∙ c.in_default.is)))
    (λ rs l. (rw c.in-Ok-End.field-0-is at c.in-Ok-End.ensures.left) rs
    (subst (λ f. g.X.Feed.left f rs) (sym c.look.ensures.held.feed) l)) (
      refl,
      c.look.ensures.waits ∙ none_wait c.args.self.now.marks.items c.args.self.now.given _
          (omega (arith, c.if-self-len.false, c.len.ensures)) (ap option_to_list c.take.ensures.after),
    )
    c.look.ensures.held.known left

pub returns-in-Err-clause-received : goal.returns-in-Err-clause-received
returns-in-Err-clause-received g c = inr (record {
  none = none_wait c.args.self.now.marks.items c.args.self.now.given _
      (omega (arith, c.if-self-len.false, c.len.ensures)) (ap option_to_list (sym c.take.ensures.value ∙ c.in_default.is));
  asked = Err c.in-Err.fault;
  asks = subst (λ f. g.X.Feed.gives f (Err c.in-Err.fault) c.next.new.self) c.look.ensures.held.feed
      c.in-Err.ensures.received;
  passed = (
    refl,
    c.look.ensures.waits ∙ none_wait c.args.self.now.marks.items c.args.self.now.given _
        (omega (arith, c.if-self-len.false, c.len.ensures)) (ap option_to_list c.take.ensures.after),
  );
  known = c.look.ensures.held.known;
})

pub returns-in-Ok-Request-clause-left : goal.returns-in-Ok-Request-clause-left
returns-in-Ok-Request-clause-left g c = λ requests left.
    passed_on g.X.Feed g.M.Marker (marked_state c.args.self.now) (marked_state c.give.new.self)
    (Ok (gives.Request c.in-Ok-Request.request)) c.give.result requests
    (none_wait c.args.self.now.marks.items c.args.self.now.given _
    (omega (arith, c.if-self-len.false, c.len.ensures)) (ap option_to_list (sym c.take.ensures.value ∙ c.in_default.is)))
    (λ rs l. subst (λ f. FeedsOf {X = FeedFault} rs (Ok (gives.Request c.in-Ok-Request.request)) (g.X.Feed.left f))
    (sym c.give.ensures.held.feed)
    ((rw c.in-Ok-Request.field-0-is at c.in-Ok-Request.ensures.left) rs
    (subst (λ f. g.X.Feed.left f rs) (sym c.look.ensures.held.feed) l)))
    (λ placed e. c.give.ensures.first placed (c.look.ensures.held.known ∙ e))
    (c.give.ensures.held.known ∙ c.look.ensures.held.known) left
