use Rattle.std.proofs.Common.{rules, ap, refl, sym, subst, [], Err}
use Rattle.bw_exchange.specs.WholeExchanges.{ended_by}
use Rattle.bw_connections.specs.Lives.{Proceeds}
use Rattle.bw_connections.specs.declared.connection.ConnectionEnd.TheVariants.{Over}
use Rattle.bw_connections.proofs.Going.{ended_served, ends_as, ends_well, over, still}
use Rattle.bw_connections.proofs.connection.Connection.settle.Goals as goal

pub returns-in_default-fault_to_drain-clause-goes : goal.returns-in_default-fault_to_drain-clause-goes
returns-in_default-fault_to_drain-clause-goes g c =
    subst (λ x. Proceeds g.L.Link (Err (Over x)) c.args.self.now [] c.args.self.now) (sym c.from.ensures)
    (over g.L.Link (Over (ended_by c.in-Some.end)) c.args.self.now c.args.self.now [] c.requires refl
    (still g.L.Link c.args.self.now.link) (ends_as c.in-Some.end c.args.self.now.exchange (search rules) (search rules))
    (ends_well c.in-Some.end (g.L.Link.broken c.args.self.now.link)) (ended_served c.in-Some.end (search rules)))

pub returns-in_default-fault_to_drain-clause-settles : goal.returns-in_default-fault_to_drain-clause-settles
returns-in_default-fault_to_drain-clause-settles g c =
    (refl, (c.in-Some.end, search rules, search rules, ap (λ x. Over x) c.from.ensures))
