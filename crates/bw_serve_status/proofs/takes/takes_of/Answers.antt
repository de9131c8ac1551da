use Rattle.std.proofs.Common.{sym, subst}
use Rattle.std.specs.Prelude.{IsTrue, is_some}
use Rattle.std.specs.List.{All}
use Rattle.bw_model.specs.Book.{is_known}
use Rattle.bw_serve_status.proofs.ShownTakes.{all_listed, shows_takes}
use Rattle.bw_serve_status.proofs.takes.takes_of.Goals as goal

pub returns : goal.returns
returns g c = λ first book holds.
    let known = c.in_ok-names.ensures.known first book holds in
    shows_takes (λ v. v.items) (λ name. is_some (first name)) book c.args.tallies.now c.args.peers.now c.args.around
    c.in_ok-names.names.items c.takes_under.result known c.in_ok-names.ensures.in_order
    (rw c.as_slice.ensures.value at c.takes_under.ensures.names)
    (c.takes_under.ensures.each first book holds (subst (All (λ n. IsTrue (is_known book n)))
    (sym c.as_slice.ensures.value) (all_listed (is_known book) c.in_ok-names.names.items known)))
