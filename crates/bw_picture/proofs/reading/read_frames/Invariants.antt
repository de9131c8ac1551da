use Rattle.std.proofs.Common.{◌-◌, ◌≡◌, ℕ, ◌≤◌, List, drop, Some}
use Rattle.bw_picture.specs.Reads.{HasWidened}
use Rattle.bw_picture.proofs.reading.read_frames.Given as goal

abbrev pub invariant-loop-done : goal.invariant-loop-done
invariant-loop-done g l = record {
  within : l.done ≤ l.frames;
  bytes : (b : List ℕ) → g.R.Source.left l.fn.reader ≡ Some (drop l.place b) →
      HasWidened b l.place l.done l.width l.align l.fn.lows l.fn.highs l.lows l.highs (g.R.Source.left l.reader);
}

abbrev pub decreases-loop-done : goal.decreases-loop-done
decreases-loop-done g l = l.frames - l.done
