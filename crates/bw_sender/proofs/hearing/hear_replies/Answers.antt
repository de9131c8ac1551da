use Rattle.std.proofs.Common.{refl, ◌∙◌, arith}
use Rattle.std.proofs.lemmas.Result.{err_from_is_err_and}
use Rattle.bw_sender.proofs.HeardPieces.{heard-none, fed_so_far, heard-more, no_memory, no_more_heard, limit_reached}
use Rattle.bw_sender.proofs.HeardPieces.{bad_reply, input_ended, has_fed, has_ended, unlimited, ended_counts}
use Rattle.bw_exchange.proofs.Whole.{moved_on, called_on, called_once}
use Rattle.bw_sender.proofs.hearing.hear_replies.Goals as goal

pub returns-in_default-clause-hears : goal.returns-in_default-clause-hears
returns-in_default-clause-hears g c = no_memory c.args.sender.now _

pub loop-read-init : goal.loop-read-init
loop-read-init g c = record {
  buffer = c.in-Ok.ensures.len;
  so_far = heard-none c.args.sender.now _ c.new-framer.result c.new-framer.ensures;
  reads = refl;
  moved = omega arith;
  calls = omega arith;
  most = omega arith;
}

pub read_piece-requires-clause-room : goal.read_piece-requires-clause-room
read_piece-requires-clause-room g c =
    let fed = fed_so_far c.loop-read._read c.args.sender.now c.loop-read.sender _ _ c.loop-read.framer
    c.loop-read.invariant.so_far in
    omega (arith, fed, c.loop-read-test.true)

pub returns-in_err-read_piece-clause-hears : goal.returns-in_err-read_piece-clause-hears
returns-in_err-read_piece-clause-hears g c =
    let answer = err_from_is_err_and c.from_residual.result c.from_residual.ensures.1 in
    rw (answer.1, answer.2) (no_more_heard
    c.loop-read._read c.args.sender.now c.loop-read.sender _ _ _ c.loop-read.framer c.in_err-read_piece.field-0.0
    c.loop-read.invariant.so_far c.in_err-read_piece.ensures.stops)

pub returns-in_err-read_piece-clause-limit : goal.returns-in_err-read_piece-clause-limit
returns-in_err-read_piece-clause-limit g c =
    let answer = err_from_is_err_and c.from_residual.result c.from_residual.ensures.1 in
    rw (answer.1, answer.2) (unlimited c.in_err-read_piece.field-0.0 _ _ c.in_err-read_piece.ensures.stops _ _ _ _)

pub returns-then-not-branch-clause-hears : goal.returns-then-not-branch-clause-hears
returns-then-not-branch-clause-hears g c =
    let e = c.end_of_input.ensures in
    input_ended c.end_of_input.result c.loop-read._read c.args.sender.now c.loop-read.sender _ _ _ c.loop-read.framer
    c.read_piece.new.framer c.loop-read.invariant.so_far
    (has_ended _ _ c.in_ok-read_piece.field-0 c.if-not-branch.true c.in_ok-read_piece.ensures.reads) e.ok e.bad e.why

pub returns-then-not-branch-clause-reads : goal.returns-then-not-branch-clause-reads
returns-then-not-branch-clause-reads g c =
    c.in_ok-read_piece.ensures.count ∙ c.loop-read.invariant.reads
    ∙ (ended_counts c.end_of_input.result c.end_of_input.ensures.why (g.R.Source.failures c.args.reader.now) 0 0 0 0).0

pub returns-then-not-branch-clause-limit : goal.returns-then-not-branch-clause-limit
returns-then-not-branch-clause-limit g c =
    (ended_counts c.end_of_input.result c.end_of_input.ensures.why 0 (g.R.Source.moved c.args.reader.now)
    (g.R.Source.moved c.read_piece.new.reader) (g.R.Source.calls c.args.reader.now)
    (g.R.Source.calls c.read_piece.new.reader)).1

pub returns-in_err-hear_held-clause-hears : goal.returns-in_err-hear_held-clause-hears
returns-in_err-hear_held-clause-hears g c =
    let answer = err_from_is_err_and c.from_residual-in_err-hear_held.result
    c.from_residual-in_err-hear_held.ensures.1 in
    rw (answer.1, answer.2, c.in_err-hear_held.ensures.why) (bad_reply
    c.loop-read._read c.args.sender.now c.loop-read.sender c.hear_held.new.sender _ _ _ _ _ c.loop-read.framer
    c.read_piece.new.framer c.hear_held.new.framer c.loop-read.invariant.so_far
    (has_fed c.in_ok-read_piece.field-0 c.if-not-branch.false c.in_ok-read_piece.ensures.reads)
    c.hear_held.ensures.hears c.in_err-hear_held.ensures.bad)

pub loop-read-preserved : goal.loop-read-preserved
loop-read-preserved g c =
    let i = c.loop-read.invariant in
    let n = has_fed c.in_ok-read_piece.field-0 c.if-not-branch.false c.in_ok-read_piece.ensures.reads in
    record {
      buffer = i.buffer;
      so_far = heard-more c.loop-read._read c.args.sender.now c.loop-read.sender c.hear_held.new.sender _ _ _ _ _
          c.loop-read.framer c.read_piece.new.framer c.hear_held.new.framer i.so_far n c.hear_held.ensures.hears
          c.in_ok-hear_held.ensures.none;
      reads = c.in_ok-read_piece.ensures.count ∙ i.reads;
      moved = moved_on (g.R.Source.moved c.args.reader.now) _ _ c.loop-read._read _ i.moved n.counted n.some;
      calls = called_on (g.R.Source.calls c.args.reader.now) _ _ c.loop-read._read i.calls
          c.read_piece.ensures.calls;
      most = called_once (g.R.Source.calls c.args.reader.now) _ _ c.loop-read._read i.most c.read_piece.ensures.calls;
    }

pub returns-clause-hears : goal.returns-clause-hears
returns-clause-hears g c =
    limit_reached c.loop-read._read c.args.sender.now c.loop-read.sender _ _ c.loop-read.framer
    c.loop-read.invariant.so_far (omega (arith, c.loop-read-test.false))

pub returns-in_err-read_piece-clause-calls : goal.returns-in_err-read_piece-clause-calls
returns-in_err-read_piece-clause-calls g c =
    let most = called_once (g.R.Source.calls c.args.reader.now) _ _ c.loop-read._read c.loop-read.invariant.most
    c.read_piece.ensures.calls in
    omega (arith, most, c.loop-read-test.true)

pub returns-then-not-branch-clause-calls : goal.returns-then-not-branch-clause-calls
returns-then-not-branch-clause-calls g c =
    let most = called_once (g.R.Source.calls c.args.reader.now) _ _ c.loop-read._read c.loop-read.invariant.most
    c.read_piece.ensures.calls in
    omega (arith, most, c.loop-read-test.true)

pub returns-in_err-hear_held-clause-calls : goal.returns-in_err-hear_held-clause-calls
returns-in_err-hear_held-clause-calls g c =
    let most = called_once (g.R.Source.calls c.args.reader.now) _ _ c.loop-read._read c.loop-read.invariant.most
    c.read_piece.ensures.calls in
    omega (arith, most, c.loop-read-test.true)

pub returns-clause-calls : goal.returns-clause-calls
returns-clause-calls g c = let most = c.loop-read.invariant.most in omega (arith, most, c.loop-read-test.false)
