use Rattle.bw_model.proofs.VersionLaws.{first_version_stays}
use Rattle.bw_wire.proofs.laws.law_first_version.Goals as goal

pub returns : goal.returns
returns c = first_version_stays
