use Rattle.std.proofs.Common.{◌≤◌, subst, sym}
use Rattle.bw_operators.proofs.NetworkLemmas.{no_address, no_bits, no_parts}
use Rattle.bw_operators.proofs.network.network_of.Goals as goal

pub returns-in_default-parts : goal.returns-in_default-parts
returns-in_default-parts c = no_parts c.args.word.now c.in_default.ensures c.in_default-parts.ensures

pub returns-in_default-address_of : goal.returns-in_default-address_of
returns-in_default-address_of c = no_address c.args.word.now _ _ c.in_default.ensures c.in-Some-parts.ensures
    c.in_default-address_of.ensures

pub returns-in_default-bits_of : goal.returns-in_default-bits_of
returns-in_default-bits_of c = no_bits c.args.word.now _ _ _ c.in_default.ensures c.in-Some-parts.ensures
    c.in-Some-address_of.ensures
    (λ n small. c.in_default-bits_of.ensures n (subst (λ w. n ≤ w) (sym c.address_bits.ensures) small))
