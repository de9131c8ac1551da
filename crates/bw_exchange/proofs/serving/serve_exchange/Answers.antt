use Rattle.std.proofs.Common.{rules, refl, ap, subst, sym, ◌∙◌, arith}
use Rattle.std.specs.Prelude.{is_some}
use Rattle.bw_exchange.specs.declared.serving.ExchangeEnd.{ExchangeEnd}
use Rattle.bw_exchange.specs.WholeExchanges.{reads_failed, writes_failed, IsLimited, Serves}
use Rattle.bw_exchange.proofs.Ending.{no_memory, no_more_read, write_failed, limit_reached, stream_ended}
use Rattle.bw_exchange.proofs.Ending.{stopped_counts, stopped_writing, ended_counts}
use Rattle.bw_exchange.proofs.Whole.{so_far-none, counted, has_bytes, so_far-more, moved_on, called_on, called_once}
use Rattle.bw_exchange.proofs.Batches.{IsKept, batches_join, batches_none, ended_kept, stopped_kept, until_any, until_on}
use Rattle.bw_exchange.specs.declared.serving.ExchangeEnd.TheVariants as ends
use Rattle.bw_exchange.proofs.serving.serve_exchange.Goals as goal

pub returns-in_default-clause-served : goal.returns-in_default-clause-served
returns-in_default-clause-served g c = no_memory g.T.Turns.answers c.args.server.now _ _

pub returns-in_default-from_elem-clause-served : goal.returns-in_default-from_elem-clause-served
returns-in_default-from_elem-clause-served g c = no_memory g.T.Turns.answers c.args.server.now _ _

pub loop-read-init : goal.loop-read-init
loop-read-init g c = record {
  buffer = search rules;
  so_far = so_far-none g.T.Turns.answers c.args.server.now _ _ c.in-Ok.exchange c.in-Ok.ensures.fresh
      c.in-Ok.ensures.waiting c.in-Ok.ensures.wants_read;
  batches = batches_none g.T.Turns.answers g.T.Turns.commits c.args.server.now;
  committed = λ was. was;
  reads = refl;
  writes = refl;
  moved = omega arith;
  calls = omega arith;
  most = omega arith;
}

pub read_piece-requires-clause-room : goal.read_piece-requires-clause-room
read_piece-requires-clause-room g c =
    let fed = counted g.T.Turns.answers c.loop-read._read c.args.server.now c.loop-read.server _ _ _ _
    c.loop-read.exchange c.loop-read.invariant.so_far in
    omega (arith, fed, c.loop-read-test.true)

pub returns-in-Err-clause-served : goal.returns-in-Err-clause-served
returns-in-Err-clause-served g c =
    no_more_read g.T.Turns.answers c.loop-read._read c.args.server.now c.loop-read.server _ _ _ _ _
    c.loop-read.exchange c.in-Err.end c.loop-read.invariant.so_far c.in-Err.ensures.stops

pub returns-in-Err-clause-writes : goal.returns-in-Err-clause-writes
returns-in-Err-clause-writes g c =
    c.loop-read.invariant.writes
    ∙ (stopped_counts c.in-Err.end _ _ c.in-Err.ensures.stops (g.W.Sink.failures c.args.writer.now) 0 0 0 0).0

pub returns-in-Err-clause-limit : goal.returns-in-Err-clause-limit
returns-in-Err-clause-limit g c =
    (stopped_counts c.in-Err.end _ _ c.in-Err.ensures.stops 0 (g.R.Source.moved c.args.reader.now)
    (g.R.Source.moved c.read_piece.new.reader) (g.R.Source.calls c.args.reader.now)
    (g.R.Source.calls c.read_piece.new.reader)).1

pub returns-in-Err-answer_held-clause-served : goal.returns-in-Err-answer_held-clause-served
returns-in-Err-answer_held-clause-served g c =
    write_failed g.T.Turns.answers c.in-Err-answer_held.end c.loop-read._read c.args.server.now c.loop-read.server c.answer_held.new.server
    _ _ _ _ _ _ _ _ c.loop-read.exchange c.read_piece.new.exchange c.loop-read.invariant.so_far
    c.in_default-read_piece.ensures.fed c.in-Err-answer_held.ensures.stops

pub returns-in-Err-answer_held-clause-reads : goal.returns-in-Err-answer_held-clause-reads
returns-in-Err-answer_held-clause-reads g c =
    let x = c.in-Err-answer_held in
    c.in_default-read_piece.ensures.count ∙ c.loop-read.invariant.reads
    ∙ (stopped_writing x.end x.ensures.stops.stop (g.R.Source.failures c.args.reader.now) 0 0 0 0).0

pub returns-in-Err-answer_held-clause-writes : goal.returns-in-Err-answer_held-clause-writes
returns-in-Err-answer_held-clause-writes g c =
    let x = c.in-Err-answer_held in
    x.ensures.failed ∙ ap (λ n. writes_failed x.end n) c.loop-read.invariant.writes

pub returns-in-Err-answer_held-clause-limit : goal.returns-in-Err-answer_held-clause-limit
returns-in-Err-answer_held-clause-limit g c =
    let x = c.in-Err-answer_held in
    (stopped_writing x.end x.ensures.stops.stop 0 (g.R.Source.moved c.args.reader.now)
    (g.R.Source.moved c.read_piece.new.reader) (g.R.Source.calls c.args.reader.now)
    (g.R.Source.calls c.read_piece.new.reader)).1

pub returns-in-Some-clause-served : goal.returns-in-Some-clause-served
returns-in-Some-clause-served g c =
    subst (λ (end : ExchangeEnd). Serves g.T.Turns.answers end c.args.server.now c.answer_held.new.server
    (g.R.Source.left c.args.reader.now) (g.R.Source.left c.read_piece.new.reader)
    (g.W.Sink.written c.args.writer.now) (g.W.Sink.written c.answer_held.new.writer)) (sym c.from.ensures)
    (stream_ended g.T.Turns.answers c.loop-read._read c.args.server.now c.loop-read.server c.answer_held.new.server
    _ _ _ _ _ _ _ _ c.loop-read.exchange c.read_piece.new.exchange c.answer_held.new.exchange c.in-Some.end
    c.loop-read.invariant.so_far c.in_default-read_piece.ensures.fed c.in_default-answer_held.ensures.answers
    (sym c.in-Some.ensures))

pub returns-in-Some-clause-reads : goal.returns-in-Some-clause-reads
returns-in-Some-clause-reads g c =
    let n = g.R.Source.failures c.args.reader.now in
    c.in_default-read_piece.ensures.count ∙ c.loop-read.invariant.reads ∙ (ended_counts c.in-Some.end n 0 0 0 0).0
    ∙ ap (λ (end : ExchangeEnd). reads_failed end n) (sym c.from.ensures)

pub returns-in-Some-clause-writes : goal.returns-in-Some-clause-writes
returns-in-Some-clause-writes g c =
    let n = g.W.Sink.failures c.args.writer.now in
    c.in_default-answer_held.ensures.count ∙ c.loop-read.invariant.writes ∙ (ended_counts c.in-Some.end n 0 0 0 0).1
    ∙ ap (λ (end : ExchangeEnd). writes_failed end n) (sym c.from.ensures)

pub returns-in-Some-clause-limit : goal.returns-in-Some-clause-limit
returns-in-Some-clause-limit g c =
    let m = g.R.Source.moved c.args.reader.now in
    let m' = g.R.Source.moved c.read_piece.new.reader in
    let k = g.R.Source.calls c.args.reader.now in
    let k' = g.R.Source.calls c.read_piece.new.reader in
    subst (λ (end : ExchangeEnd). IsLimited end m m' k k') (sym c.from.ensures)
    (ended_counts c.in-Some.end 0 m m' k k').2

pub loop-read-preserved : goal.loop-read-preserved
loop-read-preserved g c =
    let i = c.loop-read.invariant in
    let n = c.in_default-read_piece.ensures.fed in
    let w = c.in_default-answer_held.ensures in
    let a = c.loop-read.exchange in
    let b = c.read_piece.new.exchange in
    let e = c.answer_held.new.exchange in
    let running = ap is_some (sym c.in_default-end.ensures) in
    let some = has_bytes g.T.Turns.answers c.loop-read.server c.answer_held.new.server _ _ _ _ _ _ a b e n
    w.answers running in
    record {
      buffer = search rules;
      so_far = so_far-more g.T.Turns.answers c.loop-read._read c.args.server.now c.loop-read.server
          c.answer_held.new.server _ _ _ _ _ _ _ _ a b e i.so_far n w.answers w.idle running;
      batches = batches_join g.T.Turns.answers g.T.Turns.commits c.args.server.now c.loop-read.server
          c.answer_held.new.server i.batches w.batches;
      committed = λ was. c.answer_held.ensures.committed (i.committed was);
      reads = c.in_default-read_piece.ensures.count ∙ i.reads;
      writes = w.count ∙ i.writes;
      moved = moved_on (g.R.Source.moved c.args.reader.now) _ _ c.loop-read._read _ i.moved n.counted some;
      calls = called_on (g.R.Source.calls c.args.reader.now) _ _ c.loop-read._read i.calls
          c.read_piece.ensures.calls;
      most = called_once (g.R.Source.calls c.args.reader.now) _ _ c.loop-read._read i.most c.read_piece.ensures.calls;
    }

pub returns-clause-served : goal.returns-clause-served
returns-clause-served g c =
    limit_reached g.T.Turns.answers c.loop-read._read c.args.server.now c.loop-read.server _ _ _ _
    c.loop-read.exchange c.loop-read.invariant.so_far (search rules)

pub returns-in-Err-clause-calls : goal.returns-in-Err-clause-calls
returns-in-Err-clause-calls g c =
    let most = called_once (g.R.Source.calls c.args.reader.now) _ _ c.loop-read._read c.loop-read.invariant.most
    c.read_piece.ensures.calls in
    omega (arith, most, c.loop-read-test.true)

pub returns-in-Err-answer_held-clause-calls : goal.returns-in-Err-answer_held-clause-calls
returns-in-Err-answer_held-clause-calls g c =
    let most = called_once (g.R.Source.calls c.args.reader.now) _ _ c.loop-read._read c.loop-read.invariant.most
    c.read_piece.ensures.calls in
    omega (arith, most, c.loop-read-test.true)

pub returns-in-Some-clause-calls : goal.returns-in-Some-clause-calls
returns-in-Some-clause-calls g c =
    let most = called_once (g.R.Source.calls c.args.reader.now) _ _ c.loop-read._read c.loop-read.invariant.most
    c.read_piece.ensures.calls in
    omega (arith, most, c.loop-read-test.true)

pub returns-clause-calls : goal.returns-clause-calls
returns-clause-calls g c = let most = c.loop-read.invariant.most in omega (arith, most, c.loop-read-test.false)

pub returns-in-Err-answer_held-clause-committed : goal.returns-in-Err-answer_held-clause-committed
returns-in-Err-answer_held-clause-committed g c =
    λ was. c.answer_held.ensures.committed (c.loop-read.invariant.committed was)

pub returns-in_default-clause-batches : goal.returns-in_default-clause-batches
returns-in_default-clause-batches g c =
    until_any g.T.Turns.answers g.T.Turns.commits ends.Memory c.args.server.now c.args.server.now tt
    (batches_none g.T.Turns.answers g.T.Turns.commits c.args.server.now)

pub returns-in_default-from_elem-clause-batches : goal.returns-in_default-from_elem-clause-batches
returns-in_default-from_elem-clause-batches g c =
    until_any g.T.Turns.answers g.T.Turns.commits ends.Memory c.args.server.now c.args.server.now tt
    (batches_none g.T.Turns.answers g.T.Turns.commits c.args.server.now)

pub returns-in-Err-clause-batches : goal.returns-in-Err-clause-batches
returns-in-Err-clause-batches g c =
    until_any g.T.Turns.answers g.T.Turns.commits c.in-Err.end c.args.server.now c.loop-read.server
    (stopped_kept c.in-Err.end _ _ c.in-Err.ensures.stops) c.loop-read.invariant.batches

pub returns-in-Err-answer_held-clause-batches : goal.returns-in-Err-answer_held-clause-batches
returns-in-Err-answer_held-clause-batches g c =
    until_on g.T.Turns.answers g.T.Turns.commits c.in-Err-answer_held.end c.args.server.now c.loop-read.server c.answer_held.new.server
    c.loop-read.invariant.batches c.in-Err-answer_held.ensures.until

pub returns-in-Some-clause-batches : goal.returns-in-Some-clause-batches
returns-in-Some-clause-batches g c =
    until_any g.T.Turns.answers g.T.Turns.commits c.from.result c.args.server.now c.answer_held.new.server
    (subst (λ (end : ExchangeEnd). IsKept end) (sym c.from.ensures) (ended_kept c.in-Some.end))
    (batches_join g.T.Turns.answers g.T.Turns.commits c.args.server.now c.loop-read.server
    c.answer_held.new.server c.loop-read.invariant.batches c.in_default-answer_held.ensures.batches)

pub returns-clause-batches : goal.returns-clause-batches
returns-clause-batches g c =
    until_any g.T.Turns.answers g.T.Turns.commits ends.TurnLimit c.args.server.now c.loop-read.server tt
    c.loop-read.invariant.batches
