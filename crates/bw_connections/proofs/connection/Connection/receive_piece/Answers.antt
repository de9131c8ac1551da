use Rattle.std.proofs.Common.{rules, arith, refl, inl, inr, []}
use Rattle.bw_exchange.specs.declared.serving.ExchangeEnd.TheVariants as ends
use Rattle.bw_exchange.specs.Parts.{waiting_in}
use Rattle.bw_exchange.proofs.Going.{does_none}
use Rattle.bw_connections.specs.declared.connection.ConnectionEnd.TheVariants.{Over}
use Rattle.bw_connections.proofs.Going.{fed_or_over, fed_reads, no_more, none_held, none_read, over}
use Rattle.bw_connections.proofs.connection.Connection.receive_piece.Goals as goal

pub returns-in-Bytes-clause-goes : goal.returns-in-Bytes-clause-goes
returns-in-Bytes-clause-goes g c =
    let r = c.in-Bytes.ensures in
    let up = c.is_up_to_date.ensures.yes (search rules) in
    fed_or_over g.L.Link c.feed_piece.result c.args.self.now _ _ c.requires.serving c.requires.serving up.0 up.1
    (search rules) (search rules)
    (record { given = r.given; taken = no_more g.L.Link.taken _ _ r.taken; ended = r.ended; finished = r.finished })
    c.feed_piece.ensures.feeds

pub returns-in-Failed-clause-goes : goal.returns-in-Failed-clause-goes
returns-in-Failed-clause-goes g c =
    let r = c.in-Failed.ensures in
    over g.L.Link (Over ends.ReadFault) c.args.self.now (record c.args.self.now { link = c.receive.new.self }) []
    c.requires.serving refl
    (record { given = r.given; taken = no_more g.L.Link.taken _ _ r.taken; ended = r.ended; finished = r.finished })
    (c.is_up_to_date.ensures.yes (search rules), refl) (r.fault refl) tt

pub returns-then-not-self-clause-reads : goal.returns-then-not-self-clause-reads
returns-then-not-self-clause-reads g c = none_read g.L.Link c.args.self.now (search rules)

pub returns-in-Bytes-clause-reads : goal.returns-in-Bytes-clause-reads
returns-in-Bytes-clause-reads g c =
    fed_reads g.L.Link c.feed_piece.result c.args.self.now _ _ refl refl c.in-Bytes.ensures.full
    (c.is_up_to_date.ensures.yes (search rules)).1 (search rules) (search rules) c.feed_piece.ensures.feeds

pub returns-in-Ended-clause-reads : goal.returns-in-Ended-clause-reads
returns-in-Ended-clause-reads g c = record {
  piece = [];
  most = omega arith;
  does = c.finish.ensures.done;
  some = λ bytes up. inr (inl c.finish.ensures.over);
  reported = inl refl;
  held = none_held (waiting_in c.args.self.now.exchange) (c.is_up_to_date.ensures.yes (search rules)).1;
  writable = refl;
  full = c.in-Ended.ensures.full;
}

pub returns-in-Nothing-clause-reads : goal.returns-in-Nothing-clause-reads
returns-in-Nothing-clause-reads g c = record {
  piece = [];
  most = omega arith;
  does = does_none c.args.self.now.exchange;
  some = λ bytes up. inr (inr (refl, c.in-Nothing.ensures.nothing refl));
  reported = inr (refl, c.in-Nothing.ensures.nothing refl);
  held = λ some. (refl, refl);
  writable = refl;
  full = c.in-Nothing.ensures.full;
}
