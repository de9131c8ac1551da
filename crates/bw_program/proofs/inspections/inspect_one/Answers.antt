use Rattle.std.proofs.Common.{◌∙◌, sym, true, refl}
use Rattle.bw_program.proofs.InspectionLemmas.{look_file, look_input}
use Rattle.bw_program.proofs.inspections.inspect_one.Goals as goal

pub returns-then-is_input : goal.returns-then-is_input
returns-then-is_input g c =
    let i = c.inspect_run.ensures in
    (i.0, i.1, true, look_input _ _ _ _ i.0 (sym c.is_input.ensures ∙ c.if-is_input.true) i.2, i.3, refl, i.4)

pub returns-else-is_input : goal.returns-else-is_input
returns-else-is_input g c =
    let i = c.inspect_file.ensures in
    (i.0, i.1, i.2, look_file _ _ _ _ i.2 i.0 (sym c.is_input.ensures ∙ c.if-is_input.false) i.3, rw i.4 refl, i.5, i.6)
