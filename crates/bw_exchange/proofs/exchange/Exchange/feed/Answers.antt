use Rattle.std.proofs.Common.{[], ◌++◌, Option, sym, subst, arith}
use Rattle.bw_model.specs.Stream.{End}
use Rattle.bw_model.proofs.Ranges.{are_bytes_lem}
use Rattle.bw_exchange.specs.Done.{Done}
use Rattle.bw_exchange.proofs.Doing.{done_fed}
use Rattle.bw_exchange.proofs.Going.{none_so_far}
use Rattle.bw_exchange.proofs.exchange.Exchange.feed.Goals as goal

pub returns-clause-fed : goal.returns-clause-fed
returns-clause-fed c fed before gone d =
    let s = c.args.self.now in
    let none = none_so_far s.end (s.«open» c.requires.wants_read) in
    let piece = c.args.piece.now in
    let q = c.feed.new.self in
    let w = s.outgoing.items in
    subst (λ (x : Option End). Done (fed ++ piece) (before ++ []) (gone ++ []) q w x) (sym none)
    (done_fed fed before gone s.framer w piece q c.in-Ok.ensures.ok
    (are_bytes_lem piece (λ i. omega (arith, c.type_inv.piece i)))
    (subst (λ (x : Option End). Done fed before gone s.framer s.outgoing.items x) none d))
