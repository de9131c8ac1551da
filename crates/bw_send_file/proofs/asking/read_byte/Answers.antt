use Rattle.std.proofs.Common.{arith}
use Rattle.bw_send_file.proofs.ReadSteps.{one_given}
use Rattle.bw_send_file.proofs.asking.read_byte.Goals as goal

pub returns : goal.returns
returns g c = one_given _ _ c.in-Ok.count _ c.read.new.buf (omega (arith, c.in-Ok.ensures.within)) (omega arith) c.in-Ok.ensures.ok
