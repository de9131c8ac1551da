use Rattle.std.proofs.Common.{rules}
use Rattle.bw_file.proofs.writes.put_grown_header.Goals as goal

pub returns-in_err-put_grown_sizes-clause-begun : goal.returns-in_err-put_grown_sizes-clause-begun
returns-in_err-put_grown_sizes-clause-begun g c = search rules

pub returns-then-is_riff-clause-order : goal.returns-then-is_riff-clause-order
returns-then-is_riff-clause-order g c = search rules

pub returns-then-is_riff-clause-put : goal.returns-then-is_riff-clause-put
returns-then-is_riff-clause-put g c = search rules
