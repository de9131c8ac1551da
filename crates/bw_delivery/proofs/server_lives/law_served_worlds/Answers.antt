use Rattle.bw_delivery.proofs.ServedWorlds.{turns_of_worlds, stops_are_steps, starts_are_steps}
use Rattle.bw_delivery.proofs.server_lives.law_served_worlds.Goals as goal

pub returns : goal.returns
returns g c = record {
  turns = turns_of_worlds _ _ _ _ c.law_begins.ensures.covered;
  stops = stops_are_steps _ _ _ _ c.law_stops.ensures;
  starts = starts_are_steps _ _ c.law_begins.ensures.held c.law_begins.ensures.covered;
}
