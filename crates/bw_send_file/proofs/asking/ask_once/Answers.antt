use Rattle.std.proofs.Common.{List, Ok, ℕ, subst, sym}
use Rattle.bw_model.specs.Wire.{Asks}
use Rattle.bw_wire.specs.EncodedFrames.{IsFrameOf}
use Rattle.bw_send_file.proofs.AskSteps.{answers_over}
use Rattle.bw_send_file.proofs.asking.ask_once.Goals as goal

pub returns-in-Ok-dial-clause-ok : goal.returns-in-Ok-dial-clause-ok
returns-in-Ok-dial-clause-ok g c = record {
  made = Ok c.in-Ok-dial.link;
  dials = c.in-Ok-dial.ensures.received;
  asks = (
    c.as_slice.result.now,
    subst (λ (f : List ℕ). IsFrameOf (Asks c.args.name.now 0) f) (sym c.as_slice.ensures.value) c.in-Ok.ensures,
    c.ask_over.ensures.writes,
  );
  answers = answers_over g.D.Dial g.D.Reader.Source g.D.Writer.Sink c.args.name.now c.ask_over.result c.in-Ok-dial.link
      c.ask_over.ensures.answer;
}
