use Rattle.std.proofs.Common.{arith, ◌≡◌, ◌∙◌, ℕ, List, [], ◌<◌, ◌++◌, length, flat_map, ap, sym, append-nil}
use Rattle.std.proofs.lemmas.Grind.{common_steps}
use Rattle.bw_commands.specs.Text.{reply_line}
use Rattle.bw_commands.proofs.TextLemmas.{reply_step, no_reply_left}
use Rattle.bw_commands.proofs.text.put_replies.Goals as goal

pub loop-rest-preserved : goal.loop-rest-preserved
loop-rest-preserved c replies spelled e =
    let i = c.loop-rest.invariant replies spelled e in
    let some : 0 < length c.loop-rest.rest.now =
    grind (arith, common_steps, c.loop-rest-test.true, c.loop-rest-test.ensures) in
    reply_step i.0 _ _ _ _ _ _ some i.1 i.2 i.3 c.split_frame.ensures.frame c.in_ok-put_hex_line.ensures

pub returns : goal.returns
returns c replies spelled e =
    let i = c.loop-rest.invariant replies spelled e in
    let none : length c.loop-rest.rest.now ≡ 0 =
    grind (arith, common_steps, c.loop-rest-test.false, c.loop-rest-test.ensures) in
    let left : flat_map reply_line i.0 ≡ [] = no_reply_left i.0 (sym (ap length i.2) ∙ none) in
    sym (append-nil _) ∙ (ap (λ (z : List ℕ). c.loop-rest.out.items ++ z) (sym left) ∙ i.3)
