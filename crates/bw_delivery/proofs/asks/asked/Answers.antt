use Rattle.std.proofs.Common.{sym, subst}
use Rattle.bw_model.specs.Wire.{Asks}
use Rattle.bw_wire.specs.EncodedFrames.{IsFrameOf}
use Rattle.bw_delivery.proofs.AskForms.{asked_so}
use Rattle.bw_delivery.proofs.asks.asked.Goals as goal

pub returns : goal.returns
returns c = λ limit w is.
    let read = c.in-Some.ensures c.args.name.now
    (subst (IsFrameOf (Asks c.args.name.now 0)) (sym c.deref.ensures.value) c.in_ok-frame.ensures) in
    asked_so limit w _ c.args.name.now _ read.0 read.1 c.ask.result (c.ask.ensures limit w is)
