use Rattle.std.proofs.Common.{rules, ap, refl, subst, sym, inl, inr, take, ◌∙◌, ◌++◌, [], List, ℕ}
use Rattle.std.proofs.lemmas.List.{take-append-drop}
use Rattle.bw_exchange.specs.declared.serving.ExchangeEnd.TheVariants as ends
use Rattle.bw_connections.specs.declared.connection.ConnectionEnd.TheVariants.{Over}
use Rattle.bw_exchange.specs.Parts.{waiting_in}
use Rattle.bw_exchange.proofs.Going.{does_none}
use Rattle.bw_connections.proofs.Going.{no_more, none_sent, over, some_taken}
use Rattle.bw_connections.proofs.connection.Connection.send_waiting.Goals as goal

pub returns-in-Failed-clause-goes : goal.returns-in-Failed-clause-goes
returns-in-Failed-clause-goes g c =
    let r = c.in-Failed.ensures in
    over g.L.Link (Over ends.WriteFault) c.args.self.now (record c.args.self.now { link = c.send.new.self }) []
    c.requires refl
    (record { given = no_more g.L.Link.given _ _ r.given; taken = r.taken; ended = r.ended; finished = r.finished })
    (search rules, refl) (r.fault refl) tt

pub returns-then-not-self-clause-sends : goal.returns-then-not-self-clause-sends
returns-then-not-self-clause-sends g c =
    none_sent g.L.Link c.args.self.now c.then-not-self.self (search rules) (search rules) (search rules) (search rules)
    (search rules)

pub returns-in-Bytes-clause-sends : goal.returns-in-Bytes-clause-sends
returns-in-Bytes-clause-sends g c =
    let within = c.in-Bytes.ensures.within in
    record {
      bytes = take c.in-Bytes.count (waiting_in c.args.self.now.exchange);
      does = c.consumed.ensures.done;
      left = sym (take-append-drop c.in-Bytes.count (waiting_in c.args.self.now.exchange))
          ∙ ap (λ (x : List ℕ). take c.in-Bytes.count (waiting_in c.args.self.now.exchange) ++ x)
          (sym c.consumed.ensures.left);
      some = λ room some. inl (some_taken (waiting_in c.args.self.now.exchange) c.in-Bytes.count (search rules) some);
      wants_read = c.consumed.ensures.wants_read;
      ended = c.consumed.ensures.end;
      room = inl refl;
      readable = refl;
      dry = c.in-Bytes.ensures.dry;
    }

pub returns-in-Bytes-clause-leaves : goal.returns-in-Bytes-clause-leaves
returns-in-Bytes-clause-leaves g c = record {
  bytes = take c.in-Bytes.count (waiting_in c.args.self.now.exchange);
  left = waiting_in c.consumed.new.self;
  waited = sym (take-append-drop c.in-Bytes.count (waiting_in c.args.self.now.exchange))
      ∙ ap (λ (x : List ℕ). take c.in-Bytes.count (waiting_in c.args.self.now.exchange) ++ x)
      (sym c.consumed.ensures.left);
  taken = subst (λ (w : List ℕ). (ys : List ℕ) → g.L.Link.taken c.args.self.now.link ys →
      g.L.Link.taken c.send.new.self (ys ++ take c.in-Bytes.count w)) c.outgoing-waiting.ensures.value
      c.in-Bytes.ensures.taken;
}

pub returns-in-Nothing-clause-sends : goal.returns-in-Nothing-clause-sends
returns-in-Nothing-clause-sends g c = record {
  bytes = [];
  does = does_none c.args.self.now.exchange;
  left = refl;
  some = λ room some. inr (refl, c.in-Nothing.ensures.nothing refl);
  wants_read = refl;
  ended = refl;
  room = inr (refl, c.in-Nothing.ensures.nothing refl);
  readable = refl;
  dry = c.in-Nothing.ensures.dry;
}
