use Rattle.std.proofs.Common.{◌≡◌, drop}
use Rattle.std.specs.List.{list_any}
use Rattle.bw_sender.specs.Entries.{closes}
use Rattle.bw_sender.proofs.window.Window.has_closed.Given as goal

abbrev pub invariant-loop-slot : goal.invariant-loop-slot
invariant-loop-slot l = record {
  none : list_any closes l.self ≡ list_any closes (drop l.slot l.self);
}
