use Rattle.std.proofs.Common.{◌≡◌, ◌+◌, ◌*◌, ◌≤◌, ℕ, List, length}
use Rattle.bw_inspect.specs.Contents.{ReadTo}
use Rattle.bw_inspect.specs.RowLists.{HasRows}
use Rattle.bw_inspect.proofs.row_list.read_rows.Given as goal

abbrev pub invariant-loop-done : goal.invariant-loop-done
invariant-loop-done g l = record {
  entry : l.entry ≡ l.fn.entry;
  all : length l.rows.items ≡ l.done;
  count : g.R.Source.failures l.reader ≡ g.R.Source.failures l.fn.reader;
  moved : g.R.Source.moved l.reader ≤ g.R.Source.moved l.fn.reader + g.T.Row.WIDTH * l.done;
  rows : (b : List ℕ) → ReadTo b l.fn.entry l.fn.prefix (g.R.Source.left l.fn.reader) →
      HasRows g.T.Row.reported g.T.Row.WIDTH b l.fn.entry l.fn.prefix l.done l.rows.items (g.R.Source.left l.reader);
}
