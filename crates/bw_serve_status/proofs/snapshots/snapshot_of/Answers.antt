use Rattle.std.proofs.Common.{◌∙◌, ap, sym, subst}
use Rattle.std.specs.Prelude.{is_some}
use Rattle.bw_serve_status.specs.Takes.{ShowsTakes}
use Rattle.bw_serve_status.proofs.snapshots.snapshot_of.Goals as goal

pub returns-clause-takes : goal.returns-clause-takes
returns-clause-takes g c = λ first book holds. subst
    (λ ts. ShowsTakes (λ name. is_some (first name)) book ts c.args.round.now.peers.now c.args.around
    c.in_ok-takes.takes.items) (c.names.ensures ∙ ap (λ t. t.names) c.tallies-tallies.ensures)
    (c.in_ok-takes.ensures first book
    (c.table.ensures first book (subst (λ s. g.T.HasTable.holds s first book) (sym c.server.ensures) holds)))
