use Rattle.std.proofs.Common.{◌≡◌, drop}
use Rattle.bw_serve_status.specs.Growths.{grown_at}
use Rattle.bw_serve_status.proofs.growth.grown_at.Given as goal

abbrev pub invariant-loop-place : goal.invariant-loop-place
invariant-loop-place l =
    grown_at l.fn.name (drop l.place l.fn.names) (drop l.place l.fn.growth) ≡ grown_at l.fn.name l.fn.names l.fn.growth
