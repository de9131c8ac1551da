use Rattle.std.proofs.Common.{refl, sym, subst}
use Rattle.std.proofs.lemmas.Result.{IfErr-weaker, IfOk-weaker}
use Rattle.bw_console.specs.Lines.{lines_of}
use Rattle.bw_console.specs.declared.fault.Fault.{Fault}
use Rattle.bw_delivery.specs.ServerLines.{IsStopEventFault}
use Rattle.bw_delivery.proofs.StopTexts.{of_lines}
use Rattle.bw_delivery.proofs.command.stops_text.Goals as goal

pub returns-clause-ok : goal.returns-clause-ok
returns-clause-ok c = IfOk-weaker c.text_of_events.result _ _ (λ text right.
    of_lines c.args.name c.args.limit c.args.input.now _ c.as_slice.result.now _ _ c.requires c.in_ok-events.ensures.ok
    c.as_slice.ensures.value right refl) c.text_of_events.ensures.ok

pub returns-clause-err : goal.returns-clause-err
returns-clause-err c = IfErr-weaker c.text_of_events.result _ _ (λ fault is.
    subst (λ (f : Fault). IsStopEventFault f (lines_of c.args.input.now)) (sym is) tt) c.text_of_events.ensures.err
