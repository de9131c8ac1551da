use Rattle.std.proofs.Common.{◌∙◌, ◌++◌, ◌∷◌, [], List, ap, map, string_bytes, sym, take, ℕ}
use Rattle.std.proofs.lemmas.List.{map-append}
use Rattle.bw_queue.proofs.NamedLemmas.{texts_more}
use Rattle.bw_program.proofs.sender_of.copies_of.Goals as goal

pub loop-text-preserved : goal.loop-text-preserved
loop-text-preserved c =
    let text = c.as_str.result.now in
    let before = map string_bytes (take c.loop-text.text-index c.args.texts.now) in
    ap (map string_bytes) c.in_ok-push.ensures.items
    ∙ (map-append string_bytes c.loop-text.copies.items (c.in_ok-from_str.field-0 ∷ [])
    ∙ (ap (λ (l : List (List ℕ)). l ++ string_bytes c.in_ok-from_str.field-0 ∷ []) c.loop-text.invariant
    ∙ (ap (λ (t : List ℕ). before ++ t ∷ []) c.in_ok-from_str.ensures.ok
    ∙ sym (texts_more string_bytes c.args.texts.now c.loop-text.text-index c.text-item.result text
    c.loop-text-test.true c.text-item.is c.as_str.ensures.value))))
