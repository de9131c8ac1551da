use Rattle.std.proofs.Common.{◌≡◌, ◌+◌, List, length, arith, sym, subst}
use Rattle.std.proofs.lemmas.Grind.{common_steps}
use Rattle.bw_console.specs.Lines.{lines_of}
use Rattle.bw_console.proofs.LineLemmas.{no_lines}
use Rattle.bw_console.proofs.SaidLines.{SaidSoFar, one_said, all_said, stops_at, read_some, read_none}
use Rattle.bw_delivery.specs.declared.event.StopEvent.{StopEvent}
use Rattle.bw_delivery.specs.ServerLines.{SaysStopEvent}
use Rattle.bw_delivery.proofs.events.stop_events.Goals as goal

pub loop-rest-preserved : goal.loop-rest-preserved
loop-rest-preserved c = record {
  within = let i = c.loop-rest.invariant.within in let s = c.first_line.ensures.shorter in omega arith;
  number = let i = c.loop-rest.invariant.number in let s = c.first_line.ensures.shorter in omega arith;
  said = subst (λ (es : List StopEvent).
      SaidSoFar SaysStopEvent (lines_of c.args.input.now) (lines_of c.first_line.result.1.now) es (c.loop-rest.number + 1))
      (sym c.in-Ok.ensures.items) (one_said SaysStopEvent _ _ _ _ _ c.first_line.result.0.now _ c.loop-rest.invariant.said
      c.first_line.ensures.lines (read_some SaysStopEvent (λ e. e) c.first_line.result.0.now c.in_ok-event.field-0 c.in-Some.event
      c.in-Some.is c.in_ok-event.ensures));
}

pub returns-clause-ok : goal.returns-clause-ok
returns-clause-ok c =
    let none : length c.loop-rest.rest.now ≡ 0 =
    grind (arith, common_steps, c.loop-rest-test.false, c.loop-rest-test.ensures) in
    all_said SaysStopEvent _ _ _ _ c.loop-rest.invariant.said (no_lines _ none)

pub returns-in_default-clause-err : goal.returns-in_default-clause-err
returns-in_default-clause-err c =
    stops_at SaysStopEvent _ _ _ _ _ c.first_line.result.0.now c.loop-rest.invariant.said c.first_line.ensures.lines
    (read_none SaysStopEvent (λ e. e) c.first_line.result.0.now c.in_ok-event.field-0 c.in_default.is c.in_ok-event.ensures)
