use Rattle.bw_recovery.proofs.laws.law_fewer_done.Goals as goal
use Rattle.bw_recovery.proofs.FewerDone.{left_files_are_of_fewer, cut_names_are_of_fewer}

pub returns : goal.returns
returns c = search (left_files_are_of_fewer, cut_names_are_of_fewer)
