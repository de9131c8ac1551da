use Rattle.std.proofs.Common.{arith, sym, ap}
use Rattle.std.proofs.lemmas.List.{length-drop}
use Rattle.bw_wire.specs.Intakes.{phase_of, pending_in}
use Rattle.bw_wire.proofs.FramerLaws.{end-cut}
use Rattle.bw_wire.proofs.intake.Intake.end.Goals as goal

pub returns-else-len-self : goal.returns-else-len-self
returns-else-len-self c =
    let i = c.args.self.now in
    sym (end-cut (pending_in i) (ap phase_of c.in-Reading.is) (omega (arith, length-drop i.start i.buffer.bytes)))
