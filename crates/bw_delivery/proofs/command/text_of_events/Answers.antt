use Rattle.std.proofs.Common.{List, ℕ, subst}
use Rattle.bw_delivery.specs.Rehearsals.{WasRehearsedWithStops}
use Rattle.bw_delivery.proofs.command.text_of_events.Goals as goal

pub returns-in_ok-text_of_stops-in-Ok-clause-ok : goal.returns-in_ok-text_of_stops-in-Ok-clause-ok
returns-in_ok-text_of_stops-in-Ok-clause-ok c =
    c.in_ok-text_of_stops-in-Ok.ensures c.args.limit c.args.events.now
    (subst (λ (n : List ℕ). WasRehearsedWithStops n c.args.limit c.args.events.now c.in-Ok.it) c.copy.ensures
    c.in-Ok.ensures)
