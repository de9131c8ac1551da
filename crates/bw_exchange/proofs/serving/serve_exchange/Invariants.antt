use Rattle.std.proofs.Common.{◌≡◌, ◌+◌, ◌-◌, ◌^◌, ◌≤◌, vec_len}
use Rattle.std.specs.Prelude.{min}
use Rattle.bw_wire.specs.Held.{longest_message_piece}
use Rattle.bw_exchange.specs.Commits.{HasBatches}
use Rattle.bw_exchange.proofs.Whole.{SoFar}
use Rattle.bw_exchange.proofs.serving.serve_exchange.Given as goal

abbrev pub invariant-loop-read : goal.invariant-loop-read
invariant-loop-read g l = record {
  buffer : vec_len l.buffer ≡ longest_message_piece;
  so_far : SoFar g.T.Turns.answers l._read l.fn.server l.server (g.R.Source.left l.fn.reader)
      (g.R.Source.left l.reader) (g.W.Sink.written l.fn.writer) (g.W.Sink.written l.writer) l.exchange;
  batches : HasBatches g.T.Turns.answers g.T.Turns.commits l.fn.server l.server;
  committed : g.T.Turns.committed l.fn.server → g.T.Turns.committed l.server;
  reads : g.R.Source.failures l.reader ≡ g.R.Source.failures l.fn.reader;
  writes : g.W.Sink.failures l.writer ≡ g.W.Sink.failures l.fn.writer;
  moved : min (g.R.Source.moved l.fn.reader + l._read) (2 ^ 64 - 1) ≤ g.R.Source.moved l.reader;
  calls : min (g.R.Source.calls l.fn.reader + l._read) (2 ^ 64 - 1) ≤ g.R.Source.calls l.reader;
  most : g.R.Source.calls l.reader ≤ g.R.Source.calls l.fn.reader + l._read;
}
