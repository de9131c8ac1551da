use Rattle.std.proofs.Common.{Some, ap, sym, subst}
use Rattle.bw_recorder.specs.Openings.{RefusesAs}
use Rattle.bw_recorder.proofs.OpeningSteps.{extension_again}
use Rattle.bw_recorder.proofs.held_header.extension_in.Goals as goal

pub returns-in-Err-clause-err : goal.returns-in-Err-clause-err
returns-in-Err-clause-err c = λ o h.
    subst (RefusesAs c.args.bytes.now o) (sym c.read_again.ensures)
    (extension_again c.args.bytes.now o c.args.report.now c.in-Err.fault _ h (ap Some c.new-source.ensures.bytes)
    c.in-Err.ensures.cut)
