use Rattle.bw_recovery.proofs.laws.law_left_files.Goals as goal
use Rattle.bw_recovery.proofs.FileLemmas.{left_files_are_mended}

pub returns : goal.returns
returns c = left_files_are_mended
