use Rattle.std.proofs.Common.{Some, ap, sym, subst}
use Rattle.bw_recorder.specs.Openings.{IsFaultOf}
use Rattle.bw_recorder.proofs.OpeningSteps.{unread_fault}
use Rattle.bw_recorder.proofs.held_header.report_in.Goals as goal

pub returns-in-Ok-clause-ok : goal.returns-in-Ok-clause-ok
returns-in-Ok-clause-ok c = (_, c.in-Ok.ensures.ok c.args.bytes.now (ap Some c.new-source.ensures.bytes))

pub returns-in-Err-clause-err : goal.returns-in-Err-clause-err
returns-in-Err-clause-err c = λ o.
    let e = ap Some c.new-source.ensures.bytes in
    subst (IsFaultOf c.args.bytes.now o) (sym c.unread_as.ensures)
    (unread_fault c.args.bytes.now o c.in-Err.fault c.inspect_recognizing.new.other
    (λ x named. (c.in-Err.ensures.err c.args.bytes.now e).fault x named)
    (λ kept. c.in-Err.ensures.other kept c.args.bytes.now e))
