use Rattle.bw_model.proofs.FileReports.{reads_back}
use Rattle.bw_model.proofs.MadeTakes.{made_reads_back}
use Rattle.bw_inspect.proofs.TakeFiles.{files_reported, made_reported}
use Rattle.bw_inspect.proofs.laws.law_file_reads.Goals as goal

pub returns : goal.returns
returns c = record { within_limits = reads_back; made = made_reads_back; reported = files_reported; made_reported = made_reported }
