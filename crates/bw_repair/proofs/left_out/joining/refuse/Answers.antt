use Rattle.std.proofs.Common.{◌≡◌, ◌∙◌}
use Rattle.bw_repair.specs.LeftTexts.{join_line}
use Rattle.bw_repair.proofs.left_out.joining.refuse.Goals as goal

pub returns-clause-line : goal.returns-clause-line
returns-clause-line g c =
    let l = c.print_diagnostic.ensures in
    let is : c.as_bytes.result.now ≡ join_line c.args.fault.now =
    c.as_bytes.ensures.value ∙ (c.as_str.ensures.value ∙ c.join_line.ensures) in (l.0, rw is at l.1, l.2)
