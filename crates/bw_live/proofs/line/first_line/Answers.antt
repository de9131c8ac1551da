use Rattle.std.proofs.Common.{[], arith}
use Rattle.bw_live.proofs.MarkLineCuts.{unended, ended_slice}
use Rattle.bw_live.proofs.line.first_line.Goals as goal

pub returns-then-len-bytes-clause-line : goal.returns-then-len-bytes-clause-line
returns-then-len-bytes-clause-line c = unended [] c.args.bytes.now (omega (arith, c.line_len-len.ensures.value))

pub returns-clause-line : goal.returns-clause-line
returns-clause-line c = ended_slice c.args.bytes.now c.line_len-len.result c.line_len-len.ensures.value
    (omega (arith, c.line_len-len.ensures.within))
