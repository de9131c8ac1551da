use Rattle.bw_recorder.proofs.RequestHex.{lines_are_read}
use Rattle.bw_recorder.proofs.request_line.law_request_lines.Goals as goal

pub returns : goal.returns
returns c = lines_are_read
