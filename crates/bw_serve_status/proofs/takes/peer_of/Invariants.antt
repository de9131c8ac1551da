use Rattle.std.proofs.Common.{◌≡◌, drop}
use Rattle.bw_serve_status.specs.Takes.{peer_of}
use Rattle.bw_serve_status.proofs.takes.peer_of.Given as goal

abbrev pub invariant-loop-peer : goal.invariant-loop-peer
invariant-loop-peer l = peer_of l.fn.allow l.fn.name (drop l.peer-index l.peers) ≡ peer_of l.fn.allow l.fn.name l.peers
