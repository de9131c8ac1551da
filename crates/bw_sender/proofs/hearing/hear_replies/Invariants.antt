use Rattle.std.proofs.Common.{◌≡◌, ◌+◌, ◌-◌, ◌^◌, ◌≤◌, vec_len}
use Rattle.std.specs.Prelude.{min}
use Rattle.bw_wire.specs.Held.{longest_piece}
use Rattle.bw_sender.proofs.HeardPieces.{HeardSoFar}
use Rattle.bw_sender.proofs.hearing.hear_replies.Given as goal

abbrev pub invariant-loop-read : goal.invariant-loop-read
invariant-loop-read g l = record {
  buffer : vec_len l.buffer ≡ longest_piece;
  so_far : HeardSoFar l._read l.fn.sender l.sender (g.R.Source.left l.fn.reader) (g.R.Source.left l.reader) l.framer;
  reads : g.R.Source.failures l.reader ≡ g.R.Source.failures l.fn.reader;
  moved : min (g.R.Source.moved l.fn.reader + l._read) (2 ^ 64 - 1) ≤ g.R.Source.moved l.reader;
  calls : min (g.R.Source.calls l.fn.reader + l._read) (2 ^ 64 - 1) ≤ g.R.Source.calls l.reader;
  most : g.R.Source.calls l.reader ≤ g.R.Source.calls l.fn.reader + l._read;
}
