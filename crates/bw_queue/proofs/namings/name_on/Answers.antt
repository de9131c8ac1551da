use Rattle.std.proofs.Common.{sym, ◌∙◌}
use Rattle.bw_queue.proofs.NamingLemmas.{bytes_differ, same_path}
use Rattle.bw_queue.proofs.namings.name_on.Goals as goal

pub returns-else-eq : goal.returns-else-eq
returns-else-eq c name is =
    bytes_differ c.in-Some.named.now c.args.path.now (sym c.eq.ensures ∙ c.if-eq.false)
    (same_path _ _ _ _ _ is c.in-Some.ensures)
