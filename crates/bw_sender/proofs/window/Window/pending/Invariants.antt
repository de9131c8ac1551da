use Rattle.std.proofs.Common.{◌≡◌, ◌+◌, drop}
use Rattle.std.specs.Prelude.{slice_get}
use Rattle.bw_sender.specs.Entries.{pending_entries}
use Rattle.bw_sender.proofs.window.Window.pending.Given as goal

abbrev pub invariant-loop-slot : goal.invariant-loop-slot
invariant-loop-slot l = record {
  rest : slice_get (pending_entries l.first l.self) l.place
      ≡ slice_get (pending_entries (l.first + l.slot) (drop l.slot l.self)) l.left;
}
