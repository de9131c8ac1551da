use Rattle.std.proofs.Common.{rules, subst, sym, ◌∙◌, ◌≤◌}
use Rattle.bw_connections.specs.Places.{begun_of}
use Rattle.bw_serve.specs.EventLoops.{Grows, LetsIn}
use Rattle.bw_serve.specs.Rounds.{Welcomes}
use Rattle.bw_serve.proofs.Growing.{grows_then}
use Rattle.bw_serve.proofs.Rounds.{lets_in_then, welcomes_more, welcomes_on}
use Rattle.bw_serve.proofs.event_loop.EventLoop.welcome.Goals.{in-Ok, in-Err-Gone}
use Rattle.bw_serve.proofs.event_loop.EventLoop.welcome.Goals as goal

pub loop-peer-preserved : goal.loop-peer-preserved
loop-peer-preserved g c = record {
  grows = elim c.match-accept.branch [
    | in-Ok w ↦ subst (λ m. Grows g.L.Link c.args.self.now m) (sym w.self-is)
        (grows_then g.L.Link c.args.self.now c.loop-peer.self w.put_peer.new.self c.loop-peer.invariant.grows
        w.put_peer.ensures.grows)
    | in-Err-Gone w ↦ subst (λ m. Grows g.L.Link c.args.self.now m) (sym w.self-is) c.loop-peer.invariant.grows
  ];
  lets_in = elim c.match-accept.branch [
    | in-Ok w ↦ subst (λ m. LetsIn c.args.now c.args.self.now m) (sym w.self-is)
        (lets_in_then c.args.now c.args.self.now c.loop-peer.self w.put_peer.new.self c.loop-peer.invariant.lets_in
        w.put_peer.ensures.lets_in)
    | in-Err-Gone w ↦ subst (λ m. LetsIn c.args.now c.args.self.now m) (sym w.self-is) c.loop-peer.invariant.lets_in
  ];
  welcomes = elim c.match-accept.branch [
    | in-Ok w ↦ subst (λ m. Welcomes g.B.Reactor c.args.now c.args.reactor.now c.accept.new.self c.args.self.now m)
        (sym w.self-is) (welcomes_more g.B.Reactor c.args.now c.in-Some.place w.in-Ok.accepted.link c.args.reactor.now
        c.loop-peer.reactor c.accept.new.self c.args.self.now c.loop-peer.self w.put_peer.new.self
        c.loop-peer.invariant.welcomes w.in-Ok.ensures.admitted w.put_peer.ensures.admits)
    | in-Err-Gone w ↦ subst (λ m. Welcomes g.B.Reactor c.args.now c.args.reactor.now c.accept.new.self c.args.self.now m)
        (sym w.self-is) (welcomes_on g.B.Reactor c.args.now c.args.reactor.now c.loop-peer.reactor c.accept.new.self
        c.args.self.now c.loop-peer.self c.loop-peer.invariant.welcomes w.in-Err-Gone.ensures.admitted)
  ];
  most = elim c.match-accept.branch [
    | in-Ok w ↦ subst (λ m. begun_of m.connections ≤ c.args.exchanges) (sym w.self-is) (search rules)
    | in-Err-Gone w ↦ subst (λ m. begun_of m.connections ≤ c.args.exchanges) (sym w.self-is) c.loop-peer.invariant.most
  ];
  failures = elim c.match-accept.branch [
    | in-Ok w ↦ w.in-Ok.ensures.count ∙ c.loop-peer.invariant.failures
    | in-Err-Gone w ↦ search rules
  ];
  waits = c.accept.ensures.waits ∙ c.loop-peer.invariant.waits;
  time = c.accept.ensures.time ∙ c.loop-peer.invariant.time;
  patience = c.accept.ensures.patience ∙ c.loop-peer.invariant.patience;
  reported = λ rs was. c.accept.ensures.reported rs (c.loop-peer.invariant.reported rs was);
  all_reported = λ all. c.accept.ensures.all_reported (c.loop-peer.invariant.all_reported all);
  tried = λ was. c.accept.ensures.tried c.loop-peer._peer (c.loop-peer.invariant.tried was);
}
