use Rattle.std.proofs.Common.{◌∙◌, sym, refl}
use Rattle.bw_program.proofs.InspectionLemmas.{inspects_files, inspects_input}
use Rattle.bw_program.proofs.inspections.inspect_as.Goals as goal

pub returns-then-is_input_alone : goal.returns-then-is_input_alone
returns-then-is_input_alone g c =
    let i = rw c.wanted_of-wanted.ensures at c.inspect_input.ensures in
    inspects_input g.F.RecordingFiles g.R.Source g.W.Sink g.E.Sink _ _ _ _ _ _ _ _ _ _ _
    (sym c.is_input_alone.ensures ∙ c.if-is_input_alone.true)
    (record { did = i.0; ends = i.1; is = i.2; reads = i.3; writes = i.4 }) refl

pub returns : goal.returns
returns g c = inspects_files g.F.RecordingFiles g.R.Source g.W.Sink g.E.Sink _ _ _ _ _ _ _ _ _ _ _
    (sym c.is_input_alone.ensures ∙ c.if-is_input_alone.false)
    (rw (c.wanted_of-wanted.ensures, c.as_slice.ensures.value) at c.inspect_files.ensures) refl
