use Rattle.std.proofs.Common.{rules}
use Rattle.bw_operators.proofs.NetworkLemmas.{no_mapped}
use Rattle.bw_operators.proofs.network.address_of.Goals as goal

pub returns-then-has_mapped_start : goal.returns-then-has_mapped_start
returns-then-has_mapped_start c = no_mapped c.args.text.now c.in-Ok.ip c.in-Ok.ensures (search rules)
