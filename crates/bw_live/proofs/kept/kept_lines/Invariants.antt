use Rattle.std.proofs.Common.{◌≡◌, [], fold, length}
use Rattle.bw_ports.specs.StateReadings.{lines_after}
use Rattle.bw_live.specs.KeptPlaces.{marks_of, no_marks, with_kept_line}
use Rattle.bw_live.proofs.kept.kept_lines.Given as goal

abbrev pub invariant-loop-line : goal.invariant-loop-line
invariant-loop-line l =
    fold with_kept_line (marks_of l.kept) (lines_after [] l.rest)
    ≡ fold with_kept_line no_marks (lines_after [] l.fn.bytes)

abbrev pub decreases-loop-line : goal.decreases-loop-line
decreases-loop-line l = length l.rest
