use Rattle.std.proofs.Common.{length, min, ◌-◌, ◌≡◌, ℕ, ◌+◌, ◌≤◌, List, Some}
use Rattle.bw_inspect.specs.Walks.{IsSmall}
use Rattle.bw_inspect.specs.Outers.{BeginsForm}
use Rattle.bw_inspect.proofs.reading.inspect_recognizing.Given as goal

abbrev pub invariant-loop-walk : goal.invariant-loop-walk
invariant-loop-walk g l = record {
  place : l.walk.place ≤ l.form.size + 9;
  small : IsSmall l.walk;
  count : g.R.Source.failures l.reader ≡ g.R.Source.failures l.fn.reader;
  moved : g.R.Source.moved l.reader ≤ g.R.Source.moved l.fn.reader + min l.walk.place (8 + l.form.size);
  begins : (b : List ℕ) → g.R.Source.left l.fn.reader ≡ Some b → BeginsForm b l.form l.walk (g.R.Source.left l.reader);
}

abbrev pub decreases-loop-walk : goal.decreases-loop-walk
decreases-loop-walk g l = 4096 - length l.walk.chunks.items
