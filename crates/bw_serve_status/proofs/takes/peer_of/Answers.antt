use Rattle.std.proofs.Common.{◌∙◌, sym, arith}
use Rattle.std.proofs.lemmas.List.{at_drop_all}
use Rattle.bw_serve_status.specs.Takes.{peer_of}
use Rattle.bw_serve_status.proofs.TakePlaces.{peer_here, peer_later}
use Rattle.bw_serve_status.proofs.takes.peer_of.Goals as goal

pub loop-peer-preserved : goal.loop-peer-preserved
loop-peer-preserved c =
    sym (peer_later c.args.allow.now c.args.name.now c.args.peers.now c.loop-peer.peer-index c.peer-item.result
    (omega arith) c.peer-item.is
    (sym c.is_peer.ensures ∙ c.if-is_peer.false)) ∙ c.loop-peer.invariant

pub returns-then-is_peer : goal.returns-then-is_peer
returns-then-is_peer c =
    sym (peer_here c.args.allow.now c.args.name.now c.args.peers.now c.loop-peer.peer-index c.peer-item.result
    (omega arith) c.peer-item.is
    (sym c.is_peer.ensures ∙ c.if-is_peer.true)) ∙ c.loop-peer.invariant

pub returns : goal.returns
returns c =
    sym (at_drop_all (peer_of c.args.allow.now c.args.name.now) c.args.peers.now c.loop-peer.peer-index
    (omega arith)) ∙ c.loop-peer.invariant
