use Rattle.std.proofs.Common.{arith, ◌≡◌, ◌∙◌, ℕ, List, [], ◌∷◌, ◌++◌, ◌≤◌, length, map, ap}
use Rattle.std.proofs.lemmas.Grind.{common_steps}
use Rattle.std.proofs.lemmas.List.{map_push}
use Rattle.std.proofs.lemmas.List.Elements.{All-push}
use Rattle.hex.proofs.HexLemmas.{decode_of-ok}
use Rattle.bw_console.specs.Input.{longest_input}
use Rattle.bw_console.specs.Lines.{decoded_from}
use Rattle.bw_console.proofs.LineLemmas.{after_lines, decoded_step, decoded_stop, decoded_end}
use Rattle.bw_console.proofs.LineLemmas.{line_faulted, no_lines, lines_step}
use Rattle.bw_console.proofs.input.decoded_lines.Goals as goal

pub loop-rest-preserved : goal.loop-rest-preserved
loop-rest-preserved c =
    let found : List (List ℕ) = map (λ x. x.items) c.loop-rest.found.items in
    let pushed : map (λ x. x.items) c.push.new.self.items ≡ found ++ c.in-Ok.bytes.items ∷ [] =
    ap (map (λ x. x.items)) c.in-Ok-push.ensures.items
    ∙ map_push (λ x. x.items) c.loop-rest.found.items c.in-Ok.bytes in
    let bytes = c.in-Ok.bytes in
    let short : length bytes.items ≤ longest_input =
    let twice = (decode_of-ok c.first_line.result.0.now bytes.items c.in-Ok.ensures.ok).2 in
    let line = c.first_line.ensures.within in
    let rest = c.loop-rest.invariant.within in
    let whole = c.requires in
    omega arith in
    record {
      within = let i = c.loop-rest.invariant.within in let s = c.first_line.ensures.shorter in omega arith;
      short = rw c.in-Ok-push.ensures.items
          (All-push (λ x. length x.items ≤ longest_input) c.loop-rest.found.items bytes c.loop-rest.invariant.short
          short);
      number = let i = c.loop-rest.invariant.number in let s = c.first_line.ensures.shorter in omega arith;
      lines = rw pushed (c.loop-rest.invariant.lines
          ∙ (lines_step found _ _ _ _ c.first_line.ensures.lines ∙ decoded_step found _ _ _ _ c.in-Ok.ensures.ok));
    }

pub returns-clause-ok : goal.returns-clause-ok
returns-clause-ok c =
    let found : List (List ℕ) = map (λ x. x.items) c.loop-rest.found.items in
    let none : length c.loop-rest.rest.now ≡ 0 =
    grind (arith, common_steps, c.loop-rest-test.false, c.loop-rest-test.ensures) in
    c.loop-rest.invariant.lines
    ∙ (ap (λ (z : List (List ℕ)). after_lines found (decoded_from c.loop-rest.number z)) (no_lines _ none)
    ∙ decoded_end found _)

pub returns-in-Err-clause-err : goal.returns-in-Err-clause-err
returns-in-Err-clause-err c =
    let found : List (List ℕ) = map (λ x. x.items) c.loop-rest.found.items in
    rw c.line_fault.ensures (line_faulted c.in-Err.error c.loop-rest.number _ _ c.in-Err.ensures.err (λ refused.
    c.loop-rest.invariant.lines
    ∙ (lines_step found _ _ _ _ c.first_line.ensures.lines ∙ decoded_stop found _ _ _ _ refused)))
