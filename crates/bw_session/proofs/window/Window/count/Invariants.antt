use Rattle.std.proofs.Common.{◌≡◌, ◌≤◌, take}
use Rattle.bw_session.specs.Windows.{count_held}
use Rattle.bw_session.proofs.window.Window.count.Given as goal

abbrev pub invariant-loop-slot : goal.invariant-loop-slot
invariant-loop-slot l = record { counted : l.count ≡ count_held (take l.slot l.self); few : l.count ≤ l.slot }
