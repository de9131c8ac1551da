use Rattle.std.proofs.Common.{take}
use Rattle.bw_model.specs.World.{World}
use Rattle.bw_commands.specs.RehearsedWorlds.{LeadsTo}
use Rattle.bw_commands.specs.Simulations.{IsSimulated, failures_on}
use Rattle.bw_commands.proofs.rehearsing.rehearse.Given as goal

abbrev pub invariant-loop-event : goal.invariant-loop-event
invariant-loop-event l =
    (world : World) × LeadsTo l.fn.name (take l.event-index l.events) (failures_on l.simulation) world
    × IsSimulated l.fn.limit world l.simulation
