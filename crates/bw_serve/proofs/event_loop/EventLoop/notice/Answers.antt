use Rattle.std.proofs.Common.{refl, ◌∙◌, ◌+◌, arith}
use Rattle.bw_serve.proofs.Growing.{grows_still, stays_then, stays_woken}
use Rattle.bw_serve.proofs.Noticing.{noticed_more, noticed_most, noticed_none}
use Rattle.bw_serve.proofs.event_loop.EventLoop.notice.Goals as goal

pub loop-place-init : goal.loop-place-init
loop-place-init g c = record {
  stays = record { grows = grows_still g.L.Link c.args.self.now; begun = refl; refused = refl };
  failures = refl;
  waits = refl;
  patience = refl;
  tried = λ n was. was;
  admitted = λ xs was. was;
  notices = noticed_none g.B.Reactor c.args.reactor.now c.args.self.now;
}

pub loop-place-preserved : goal.loop-place-preserved
loop-place-preserved g c =
    let l = c.loop-place.self in
    let w = c.wake.ensures in
    let n = c.next_ready.ensures in
    record {
      stays = stays_then g.L.Link c.args.self.now l
          (record l { connections = c.wake.new.self }) c.loop-place.invariant.stays
          (stays_woken g.L.Link c.in-Some.ready.place l
          (record l { connections = c.wake.new.self }) w.adds w.existed w.others refl refl refl refl);
      failures = n.failures ∙ c.loop-place.invariant.failures;
      waits = n.waits ∙ c.loop-place.invariant.waits;
      patience = n.patience ∙ c.loop-place.invariant.patience;
      tried = λ k was. n.tried k (c.loop-place.invariant.tried k was);
      admitted = λ xs was. n.admitted xs (c.loop-place.invariant.admitted xs was);
      notices = noticed_more g.B.Reactor c.loop-place._place c.args.reactor.now c.loop-place.reactor c.next_ready.new.self
          c.in-Some.ready c.args.self.now l (record l { connections = c.wake.new.self })
          c.loop-place.invariant.notices (λ rs was. c.in-Some.ensures.reported rs was) w.wakes w.others.0;
    }

pub returns-in-Some : goal.returns-in-Some
returns-in-Some g c =
    let l = c.loop-place.self in
    let w = c.wake.ensures in
    let n = c.next_ready.ensures in
    record {
      stays = stays_then g.L.Link c.args.self.now l
          (record l { connections = c.wake.new.self }) c.loop-place.invariant.stays
          (stays_woken g.L.Link c.in-Some.ready.place l
          (record l { connections = c.wake.new.self }) w.adds w.existed w.others refl refl refl refl);
      failures = n.failures ∙ c.loop-place.invariant.failures;
      waits = n.waits ∙ c.loop-place.invariant.waits;
      patience = n.patience ∙ c.loop-place.invariant.patience;
      tried = λ k was. n.tried k (c.loop-place.invariant.tried k was);
      admitted = λ xs was. n.admitted xs (c.loop-place.invariant.admitted xs was);
      notices = noticed_most g.B.Reactor (c.loop-place._place + 1) c.args.reactor.now c.next_ready.new.self c.args.self.now
          (record l { connections = c.wake.new.self })
          (noticed_more g.B.Reactor c.loop-place._place c.args.reactor.now c.loop-place.reactor c.next_ready.new.self
          c.in-Some.ready c.args.self.now l (record l { connections = c.wake.new.self })
          c.loop-place.invariant.notices (λ rs was. c.in-Some.ensures.reported rs was) w.wakes w.others.0)
          (let end = c.places-place-end.ensures in omega arith);
    }
