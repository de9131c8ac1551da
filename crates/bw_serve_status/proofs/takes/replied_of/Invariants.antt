use Rattle.std.proofs.Common.{◌≡◌, drop}
use Rattle.bw_serve_status.specs.Takes.{replied_of}
use Rattle.bw_serve_status.proofs.takes.replied_of.Given as goal

abbrev pub invariant-loop-tally : goal.invariant-loop-tally
invariant-loop-tally l =
    replied_of l.fn.name (drop l.tally-index l.tallies) ≡ replied_of l.fn.name l.tallies
