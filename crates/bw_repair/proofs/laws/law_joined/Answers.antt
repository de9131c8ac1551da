use Rattle.bw_repair.proofs.JoinedReadings.{joined_files_have, joined_files_read}
use Rattle.bw_repair.proofs.laws.law_joined.Goals as goal

pub returns : goal.returns
returns c = record { both = joined_files_have; read = joined_files_read }
