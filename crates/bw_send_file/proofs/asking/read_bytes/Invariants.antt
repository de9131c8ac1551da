use Rattle.std.proofs.Common.{◌≡◌, length}
use Rattle.bw_exchange.specs.WholeExchanges.{HasGiven}
use Rattle.bw_send_file.proofs.asking.read_bytes.Given as goal

abbrev pub invariant-loop-place : goal.invariant-loop-place
invariant-loop-place g l = record {
  given : HasGiven (g.R.Source.left l.fn.reader) l.bytes.items (g.R.Source.left l.reader);
  many : length l.bytes.items ≡ l._place;
}
