use Rattle.bw_session.proofs.OutsideForms.{names_outside_may_change}
use Rattle.bw_session.proofs.laws.law_outside.Goals as goal

pub returns : goal.returns
returns g c = names_outside_may_change _ _
