use Rattle.std.proofs.Common.{◌≡◌, ℕ, ◌≤◌, List, length, ◌+◌, ◌++◌, Result, Ok, Err, IfOk, OnOk, IsTrue, Vec, sym}
use Rattle.std.proofs.Common.{subst}
use Rattle.bw_model.specs.Bytes.{le32}
use Rattle.bw_model.specs.Wire.{Second, last_number, Asks, addressed, is_name}
use Rattle.bw_wire.specs.EncodedFrames.{IsFrameOf}
use Rattle.bw_wire.proofs.Encoding.{ask_frame}
use Rattle.bw_wire.proofs.encoder.encode_ask.Goals as goal

asked : {Z E : Type 0} (name : List ℕ) (number : ℕ) (r : Result (Vec ℕ Z) E) → number ≤ last_number Second
    → IfOk r (λ v. v.items ≡ le32 (6 + length name + 0) ++ addressed 6 name number) → OnOk r (IsTrue (is_name name)) →
    IfOk r (λ v. IsFrameOf (Asks name number) v.items)
asked name number (Ok v) small items named =
    subst (IsFrameOf (Asks name number)) (sym items) (ask_frame name number named small)
asked name number (Err e) small items named = tt

pub returns : goal.returns
returns c = asked c.args.name.now c.args.number c.begin.result c.requires c.begin.ensures.items c.begin.ensures.named
