use Rattle.std.proofs.Common.{◌≡◌, List, ℕ, length, arith, sym, ◌∙◌, ap}
use Rattle.std.proofs.lemmas.Grind.{common_steps}
use Rattle.std.specs.List.{list_any}
use Rattle.bw_console.proofs.LineLemmas.{no_lines}
use Rattle.bw_delivery.specs.ServerLines.{is_of_server}
use Rattle.bw_delivery.proofs.events.has_server_line.Goals as goal

pub returns : goal.returns
returns c =
    let none : length c.loop-rest.rest.now ≡ 0 =
    grind (arith, common_steps, c.loop-rest-test.false, c.loop-rest-test.ensures) in
    sym (c.loop-rest.invariant ∙ ap (λ (ls : List (List ℕ)). list_any is_of_server ls) (no_lines _ none))
