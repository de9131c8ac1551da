use Rattle.std.proofs.Common.{rules}
use Rattle.bw_wire.proofs.Encoding.{addressed_fits, noticed_fits}
use Rattle.bw_wire.proofs.reply_encoder.encode_reply.Goals as goal

pub returns-in-Verdict-clause-fits : goal.returns-in-Verdict-clause-fits
returns-in-Verdict-clause-fits c =
    rw c.in-Verdict.is (addressed_fits c.in-Verdict.name c.in-Verdict.number c.put_address.ensures.named
    (rw c.in-Verdict.is at c.requires))

pub returns-in-Notice-clause-fits : goal.returns-in-Notice-clause-fits
returns-in-Notice-clause-fits c =
    rw c.in-Notice.is (noticed_fits c.in-Notice.name c.in-Notice.number c.in-Notice.next
    c.put_address-in-Notice.ensures.named (rw c.in-Notice.is at c.requires))

pub put_address-requires-clause-empty : goal.put_address-requires-clause-empty
put_address-requires-clause-empty c = search rules

pub put_address-requires-in-Notice-clause-empty : goal.put_address-requires-in-Notice-clause-empty
put_address-requires-in-Notice-clause-empty c = search rules

pub returns-in-BadFrame-clause-frame : goal.returns-in-BadFrame-clause-frame
returns-in-BadFrame-clause-frame c = search rules
