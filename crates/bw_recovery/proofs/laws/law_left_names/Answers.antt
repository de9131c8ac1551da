use Rattle.bw_recovery.proofs.laws.law_left_names.Goals as goal
use Rattle.bw_recovery.proofs.NameLemmas.{left_names_are_resumed}

pub returns : goal.returns
returns c = left_names_are_resumed
