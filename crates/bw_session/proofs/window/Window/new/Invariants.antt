use Rattle.std.proofs.Common.{◌≡◌, replicate, None}
use Rattle.bw_session.proofs.window.Window.new.Given as goal

abbrev pub invariant-loop-slot : goal.invariant-loop-slot
invariant-loop-slot l = record { items : l.slots.items ≡ replicate l._slot None; capacity : l.slots.capacity ≡ 16 }
