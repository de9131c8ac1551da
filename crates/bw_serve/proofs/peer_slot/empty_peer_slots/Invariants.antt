use Rattle.std.proofs.Common.{◌≡◌, vec_len}
use Rattle.bw_serve.proofs.peer_slot.empty_peer_slots.Given as goal

abbrev pub invariant-loop-place : goal.invariant-loop-place
invariant-loop-place l = vec_len l.peer_slots ≡ l._place
