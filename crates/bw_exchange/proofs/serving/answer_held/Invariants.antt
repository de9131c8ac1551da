use Rattle.std.proofs.Common.{◌≡◌, ◌+◌, length}
use Rattle.bw_exchange.specs.Pieces.{WritesAnswers}
use Rattle.bw_exchange.specs.Commits.{HasBatches}
use Rattle.bw_exchange.proofs.Writing.{is_busy}
use Rattle.bw_exchange.proofs.serving.answer_held.Given as goal

abbrev pub invariant-loop-exchange : goal.invariant-loop-exchange
invariant-loop-exchange g l = record {
  answers : WritesAnswers g.T.Turns.answers l.fn.server l.server (g.W.Sink.written l.fn.writer)
      (g.W.Sink.written l.writer) l.fn.exchange l.exchange;
  batches : HasBatches g.T.Turns.answers g.T.Turns.commits l.fn.server l.server;
  committed : g.T.Turns.committed l.fn.server → g.T.Turns.committed l.server;
  count : g.W.Sink.failures l.writer ≡ g.W.Sink.failures l.fn.writer;
}

abbrev pub decreases-loop-exchange : goal.decreases-loop-exchange
decreases-loop-exchange g l = length l.exchange.framer.bytes + is_busy l.exchange
