use Rattle.std.proofs.Common.{◌≡◌, ◌+◌, List, length, arith, sym, subst}
use Rattle.std.proofs.lemmas.Grind.{common_steps}
use Rattle.bw_model.specs.Take.{Request}
use Rattle.bw_console.specs.Lines.{lines_of}
use Rattle.bw_console.proofs.LineLemmas.{no_lines}
use Rattle.bw_console.proofs.SaidLines.{SaidSoFar, one_said, all_said, stops_at, read_some, read_none}
use Rattle.bw_wire.specs.RequestTexts.{IsRequestText}
use Rattle.bw_upload.proofs.requests.requests.Goals as goal

pub loop-rest-preserved : goal.loop-rest-preserved
loop-rest-preserved c = record {
  within = let i = c.loop-rest.invariant.within in let s = c.first_line.ensures.shorter in omega arith;
  number = let i = c.loop-rest.invariant.number in let s = c.first_line.ensures.shorter in omega arith;
  said = subst (λ (rs : List Request).
      SaidSoFar IsRequestText (lines_of c.args.input.now) (lines_of c.first_line.result.1.now) rs (c.loop-rest.number + 1))
      (sym c.in-Ok.ensures.items) (one_said IsRequestText _ _ _ _ _ c.first_line.result.0.now _ c.loop-rest.invariant.said
      c.first_line.ensures.lines (read_some IsRequestText (λ r. r) c.first_line.result.0.now c.in_ok-request.field-0 c.in-Some.request
      c.in-Some.is c.in_ok-request.ensures.ok));
}

pub returns-clause-ok : goal.returns-clause-ok
returns-clause-ok c =
    let none : length c.loop-rest.rest.now ≡ 0 =
    grind (arith, common_steps, c.loop-rest-test.false, c.loop-rest-test.ensures) in
    all_said IsRequestText _ _ _ _ c.loop-rest.invariant.said (no_lines _ none)

pub returns-in_default-clause-err : goal.returns-in_default-clause-err
returns-in_default-clause-err c =
    stops_at IsRequestText _ _ _ _ _ c.first_line.result.0.now c.loop-rest.invariant.said c.first_line.ensures.lines
    (read_none IsRequestText (λ r. r) c.first_line.result.0.now c.in_ok-request.field-0 c.in_default.is c.in_ok-request.ensures.ok)
