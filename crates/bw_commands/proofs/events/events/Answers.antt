use Rattle.std.proofs.Common.{◌≡◌, ◌+◌, ◌∷◌, ◌++◌, [], List, length, map, arith, sym, ◌∙◌, ap, subst}
use Rattle.std.proofs.lemmas.Grind.{common_steps}
use Rattle.std.proofs.lemmas.List.{map_push}
use Rattle.bw_model.specs.World.{Event}
use Rattle.bw_commands.specs.RehearsedWorlds.{event_meaning}
use Rattle.bw_console.specs.Lines.{lines_of}
use Rattle.bw_commands.specs.SaidEvents.{SaysEvent}
use Rattle.bw_console.proofs.LineLemmas.{no_lines}
use Rattle.bw_console.proofs.SaidLines.{SaidSoFar, one_said, all_said, stops_at, read_some, read_none}
use Rattle.bw_commands.proofs.events.events.Goals as goal

pub loop-rest-preserved : goal.loop-rest-preserved
loop-rest-preserved c =
    let pushed : map event_meaning c.push.new.self.items
    ≡ map event_meaning c.loop-rest.found.items ++ event_meaning c.in-Some.event ∷ [] =
    ap (map event_meaning) c.in-Ok.ensures.items
    ∙ map_push event_meaning c.loop-rest.found.items c.in-Some.event in
    record {
      within = let i = c.loop-rest.invariant.within in let s = c.first_line.ensures.shorter in omega arith;
      number = let i = c.loop-rest.invariant.number in let s = c.first_line.ensures.shorter in omega arith;
      said = subst (λ (es : List Event).
          SaidSoFar SaysEvent (lines_of c.args.input.now) (lines_of c.first_line.result.1.now) es (c.loop-rest.number + 1))
          (sym pushed) (one_said SaysEvent _ _ _ _ _ c.first_line.result.0.now _ c.loop-rest.invariant.said
          c.first_line.ensures.lines (read_some SaysEvent event_meaning c.first_line.result.0.now c.in_ok-event.field-0 c.in-Some.event
          c.in-Some.is c.in_ok-event.ensures.ok));
    }

pub returns-clause-ok : goal.returns-clause-ok
returns-clause-ok c =
    let none : length c.loop-rest.rest.now ≡ 0 =
    grind (arith, common_steps, c.loop-rest-test.false, c.loop-rest-test.ensures) in
    all_said SaysEvent _ _ _ _ c.loop-rest.invariant.said (no_lines _ none)

pub returns-in_default-clause-err : goal.returns-in_default-clause-err
returns-in_default-clause-err c =
    stops_at SaysEvent _ _ _ _ _ c.first_line.result.0.now c.loop-rest.invariant.said c.first_line.ensures.lines
    (read_none SaysEvent event_meaning c.first_line.result.0.now c.in_ok-event.field-0 c.in_default.is c.in_ok-event.ensures.ok)
