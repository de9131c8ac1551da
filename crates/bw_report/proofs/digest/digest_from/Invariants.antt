use Rattle.std.proofs.Common.{◌-◌, ◌≡◌, ◌+◌, ◌≤◌, length, drop, Some}
use Rattle.std.specs.Prelude.{slice_range}
use Rattle.sha2.specs.Hashers.{Holds256}
use Rattle.bw_inspect.specs.Places.{AtPlace}
use Rattle.bw_report.proofs.digest.digest_from.Given as goal

abbrev pub invariant-loop-done : goal.invariant-loop-done
invariant-loop-done g l = record {
  within : l.done ≤ l.size;
  len : length l.piece ≡ 65536;
  failures : g.R.Source.failures l.reader ≡ g.R.Source.failures l.fn.reader;
  held : AtPlace (g.R.Source.left l.fn.reader) l.place (λ b.
      Holds256 l.hasher (slice_range b l.place (l.place + l.done))
      × (g.R.Source.left l.reader ≡ Some (drop (l.place + l.done) b)));
}

abbrev pub decreases-loop-done : goal.decreases-loop-done
decreases-loop-done g l = l.size - l.done
