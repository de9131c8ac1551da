use Rattle.std.proofs.Common.{sym, subst}
use Rattle.bw_recorder.specs.Openings.{IsFaultOf}
use Rattle.bw_recorder.proofs.OpeningSteps.{unread_fault}
use Rattle.bw_recorder.proofs.opening.read_report.Goals as goal

pub returns-in-Ok-inspect_recognizing-clause-ok : goal.returns-in-Ok-inspect_recognizing-clause-ok
returns-in-Ok-inspect_recognizing-clause-ok g c = λ b e. (_, c.in-Ok-inspect_recognizing.ensures.ok b (c.in-Ok.ensures.ok b e))

pub returns-clause-err : goal.returns-clause-err
returns-clause-err g c = λ o b e.
    subst (IsFaultOf b o) (sym c.unread_as.ensures)
    (unread_fault b o c.in-Err-inspect_recognizing.fault c.inspect_recognizing.new.other (λ x named.
    (c.in-Err-inspect_recognizing.ensures.err b (c.in-Ok.ensures.ok b e)).fault x named)
    (λ kept. c.in-Err-inspect_recognizing.ensures.other kept b (c.in-Ok.ensures.ok b e)))
