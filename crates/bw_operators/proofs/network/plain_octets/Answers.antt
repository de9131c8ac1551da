use Rattle.std.proofs.Common.{sym, ◌∙◌}
use Rattle.bw_operators.proofs.NetworkLemmas.{plain_mapped, plain_other}
use Rattle.bw_operators.proofs.network.plain_octets.Goals as goal

pub returns-then-is_mapped : goal.returns-then-is_mapped
returns-then-is_mapped c = c.split_at.ensures.back
    ∙ sym (plain_mapped c.args.octets.now (sym c.is_mapped.ensures ∙ c.if-is_mapped.true))

pub returns-else-is_mapped : goal.returns-else-is_mapped
returns-else-is_mapped c = sym (plain_other c.args.octets.now (sym c.is_mapped.ensures ∙ c.if-is_mapped.false))
