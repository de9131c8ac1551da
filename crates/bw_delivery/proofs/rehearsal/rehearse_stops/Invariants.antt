use Rattle.std.proofs.Common.{List, false, take}
use Rattle.bw_model.specs.Exchange.{nothing_stands}
use Rattle.bw_model.specs.World.{World, new_world}
use Rattle.bw_delivery.specs.StoppedWorlds.{WorldStep, WorldStepsTo}
use Rattle.bw_delivery.specs.Machines.{IsMachine, runs}
use Rattle.bw_delivery.specs.Networks.{IsNetwork}
use Rattle.bw_delivery.specs.Rehearsals.{ArePlayed}
use Rattle.bw_delivery.proofs.rehearsal.rehearse_stops.Given as goal

abbrev pub invariant-loop-event : goal.invariant-loop-event
invariant-loop-event l =
    (world : World) × (steps : List WorldStep)
    × ArePlayed (new_world l.fn.name) false (take l.event-index l.events) steps world (runs l.machine)
    × WorldStepsTo nothing_stands (new_world l.fn.name) steps world × IsNetwork world l.network
    × IsMachine l.fn.limit world.book l.machine
