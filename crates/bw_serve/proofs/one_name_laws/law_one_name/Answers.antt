use Rattle.bw_serve.proofs.Leaving.{one_name_is_left}
use Rattle.bw_serve.proofs.one_name_laws.law_one_name.Goals as goal

pub returns : goal.returns
returns c = one_name_is_left
