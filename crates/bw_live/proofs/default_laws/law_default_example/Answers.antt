use Rattle.std.proofs.Common.{refl}
use Rattle.std.specs.Fmt.{digits}
use Rattle.bw_live.proofs.default_laws.law_default_example.Goals as goal

pub returns : goal.returns
unfolding digits
returns c = (refl, refl, refl, refl, refl)
