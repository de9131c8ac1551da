use Rattle.std.proofs.Common.{◌≡◌, ◌-◌, ◌+◌, ◌≤◌, length}
use Rattle.bw_stream.specs.Readers.{Of}
use Rattle.bw_console.specs.Input.{longest_input}
use Rattle.bw_console.proofs.InputLemmas.{HasPrefix}
use Rattle.bw_console.proofs.input.all_bytes.Given as goal

abbrev pub invariant-loop-piece : goal.invariant-loop-piece
invariant-loop-piece g l = record {
  within : length l.bytes.items ≤ longest_input + 1;
  count : g.R.Source.failures l.input ≡ g.R.Source.failures l.fn.input;
  moved : g.R.Source.moved l.input ≤ g.R.Source.moved l.fn.input + length l.bytes.items;
  prefix : Of (g.R.Source.left l.fn.input) (λ xs. HasPrefix xs l.bytes.items (g.R.Source.left l.input));
}

abbrev pub decreases-loop-piece : goal.decreases-loop-piece
decreases-loop-piece g l = longest_input + 1 - length l.bytes.items
