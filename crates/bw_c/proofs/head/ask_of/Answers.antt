use Rattle.std.proofs.Common.{sym, subst, arith}
use Rattle.bw_model.specs.Wire.{Asks}
use Rattle.bw_wire.specs.EncodedFrames.{IsFrameOf}
use Rattle.bw_wire.proofs.Encoding.{ask_frame}
use Rattle.bw_c.proofs.head.ask_of.Goals as goal

pub returns-clause-frame : goal.returns-clause-frame
returns-clause-frame c =
    subst (IsFrameOf (Asks c.args.name.now 0)) (sym c.address.ensures.items)
    (ask_frame c.args.name.now 0 c.address.ensures.named (omega arith))
