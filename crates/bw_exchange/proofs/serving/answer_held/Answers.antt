use Rattle.std.proofs.Common.{rules, refl}
use Rattle.bw_exchange.proofs.Writing.{writes_first, writes_more, stops_first, stops_more, stops_unkept}
use Rattle.bw_exchange.specs.Bounds.{most_in_batch}
use Rattle.bw_exchange.specs.declared.serving.ExchangeEnd.TheVariants as ends
use Rattle.bw_exchange.proofs.Batches.{batches_more, batches_none, until_any, until_unkept}
use Rattle.bw_exchange.proofs.serving.answer_held.Goals as goal

pub returns-in_default-clause-stops : goal.returns-in_default-clause-stops
returns-in_default-clause-stops g c =
    stops_first g.T.Turns.answers c.args.server.now _ _ c.args.exchange.now c.in_default.ensures.few
    c.in_default.ensures.err

pub loop-exchange-init : goal.loop-exchange-init
loop-exchange-init g c =
    let w = c.in-Ok.ensures in
    record {
      answers = writes_first g.T.Turns.answers c.args.server.now _ _ c.args.exchange.now c.write_waiting.new.exchange
          w.done w.none w.end w.ok;
      batches = batches_none g.T.Turns.answers g.T.Turns.commits c.args.server.now;
      committed = λ was. was;
      count = w.count;
    }

pub returns-in-Err-clause-stops : goal.returns-in-Err-clause-stops
returns-in-Err-clause-stops g c =
    stops_unkept g.T.Turns.answers most_in_batch c.args.server.now c.loop-exchange.server c.answer_batch.new.server
    _ _ c.args.exchange.now c.loop-exchange.exchange c.answer_batch.new.exchange c.answer_batch.ensures.few
    c.loop-exchange.invariant.answers (c.loop-exchange-test.ensures.«open» refl) c.answer_batch.ensures.answers
    c.in-Err.cause

pub loop-exchange-preserved : goal.loop-exchange-preserved
loop-exchange-preserved g c =
    let i = c.loop-exchange.invariant in
    let w = c.in-Ok-write_waiting.ensures in
    record {
      answers = writes_more g.T.Turns.answers most_in_batch c.args.server.now c.loop-exchange.server
          c.answer_batch.new.server _ _ _ c.args.exchange.now c.loop-exchange.exchange c.answer_batch.new.exchange
          c.write_waiting-in-loop-exchange.new.exchange i.answers (c.loop-exchange-test.ensures.«open» refl)
          c.answer_batch.ensures.answers w.done w.none w.end w.ok;
      batches = batches_more g.T.Turns.answers g.T.Turns.commits c.args.server.now c.loop-exchange.server
          c.answer_batch.new.server i.batches c.in_default-answer_batch.ensures.batch;
      committed = λ was. c.answer_batch.ensures.committed (i.committed was);
      count = search rules;
    }

pub returns-in_default-write_waiting-clause-stops : goal.returns-in_default-write_waiting-clause-stops
returns-in_default-write_waiting-clause-stops g c =
    stops_more g.T.Turns.answers most_in_batch c.args.server.now c.loop-exchange.server c.answer_batch.new.server
    _ _ _ c.args.exchange.now c.loop-exchange.exchange c.answer_batch.new.exchange
    c.in_default-write_waiting.ensures.few c.loop-exchange.invariant.answers (c.loop-exchange-test.ensures.«open» refl)
    c.answer_batch.ensures.answers
    c.in_default-write_waiting.ensures.err

pub returns-in-Err-clause-committed : goal.returns-in-Err-clause-committed
returns-in-Err-clause-committed g c =
    λ was. c.answer_batch.ensures.committed (c.loop-exchange.invariant.committed was)

pub returns-in_default-write_waiting-clause-committed : goal.returns-in_default-write_waiting-clause-committed
returns-in_default-write_waiting-clause-committed g c =
    λ was. c.answer_batch.ensures.committed (c.loop-exchange.invariant.committed was)

pub returns-in_default-clause-until : goal.returns-in_default-clause-until
returns-in_default-clause-until g c =
    until_any g.T.Turns.answers g.T.Turns.commits ends.WriteFault c.args.server.now c.args.server.now tt
    (batches_none g.T.Turns.answers g.T.Turns.commits c.args.server.now)

pub returns-in-Err-clause-until : goal.returns-in-Err-clause-until
returns-in-Err-clause-until g c =
    until_unkept g.T.Turns.answers g.T.Turns.commits c.in-Err.cause c.args.server.now c.loop-exchange.server
    c.answer_batch.new.server c.loop-exchange.invariant.batches c.in-Err.ensures.lost

pub returns-in_default-write_waiting-clause-until : goal.returns-in_default-write_waiting-clause-until
returns-in_default-write_waiting-clause-until g c =
    until_any g.T.Turns.answers g.T.Turns.commits ends.WriteFault c.args.server.now c.answer_batch.new.server tt
    (batches_more g.T.Turns.answers g.T.Turns.commits c.args.server.now c.loop-exchange.server
    c.answer_batch.new.server c.loop-exchange.invariant.batches c.in_default-answer_batch.ensures.batch)
