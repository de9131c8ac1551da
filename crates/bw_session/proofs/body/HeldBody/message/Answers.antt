use Rattle.std.proofs.Common.{◌≡◌, List, ℕ, Result, Ok, sym, ◌∙◌, subst, rules}
use Rattle.std.specs.Prelude.{IfOk}
use Rattle.bw_wire.specs.declared.message.Message.{Message}
use Rattle.bw_wire.specs.declared.message.Frame.{Frame}
use Rattle.bw_wire.specs.declared.message.Frame.TheVariants as frames
use Rattle.bw_wire.specs.declared.reason.Reason.{Reason}
use Rattle.bw_wire.specs.Frames.{Borrows}
use Rattle.bw_wire.proofs.BodyLaws.{message_spelled}
use Rattle.bw_session.proofs.body.HeldBody.message.Goals as goal

borrowed : (r : Result Frame Reason) (m : Message) (bytes : List ℕ) → r ≡ Ok (frames.Message m) →
    IfOk r (λ f. Borrows f bytes) → m.body.now ≡ bytes
borrowed r m bytes e h = subst (λ (x : Result Frame Reason). IfOk x (λ f. Borrows f bytes)) e h

pub returns-clause-spelled : goal.returns-clause-spelled
returns-clause-spelled c =
    let m : Message = c.in-Ok-Message.message in
    let read : c.decode.result ≡ Ok (frames.Message m) = search rules in
    sym c.self.view_is ∙ sym c.as_slice.ensures.value
    ∙ sym (borrowed c.decode.result m c.as_slice.result.now read c.decode.ensures.borrows)
    ∙ (message_spelled m.body.now m.spells).spelled
