use Rattle.std.proofs.Common.{refl}
use Rattle.bw_operators.specs.AllowLists.{plain_octets}
use Rattle.bw_operators.proofs.allow_laws.law_allows.Goals as goal

pub returns-clause-networks : goal.returns-clause-networks
returns-clause-networks c = (refl, refl, refl, refl, refl, refl)

pub returns-clause-mapped : goal.returns-clause-mapped
returns-clause-mapped c = (refl, refl, refl)

pub returns-clause-names : goal.returns-clause-names
unfolding plain_octets
returns-clause-names c = (refl, refl, refl, refl, refl, refl)
