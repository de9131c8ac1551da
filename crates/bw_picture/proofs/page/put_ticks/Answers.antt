use Rattle.std.proofs.Common.{◌∙◌, ℕ, ◌*◌, ◌++◌, List, ap, sym, add-one, append_assoc}
use Rattle.bw_picture.specs.Pages.{tick, ticks}
use Rattle.bw_picture.specs.declared.drawing.Shape.{Shape}
use Rattle.bw_picture.proofs.page.put_ticks.Goals as goal

pub loop-k-preserved : goal.loop-k-preserved
loop-k-preserved c =
    let k : ℕ = c.loop-k.k in
    let s : Shape = c.args.shape.now in
    let old : List ℕ = c.args.text.now.items in
    let next : List ℕ = tick (k * 150) c.height_of.result (k * 150 * s.wide) c.args.rate in
    c.in_ok-put_tick.ensures
    ∙ ap (λ (z : List ℕ). z ++ next) c.loop-k.invariant
    ∙ append_assoc old (ticks s c.args.rate k) next
    ∙ ap (λ (h : ℕ). old ++ (ticks s c.args.rate k ++ tick (k * 150) h (k * 150 * s.wide) c.args.rate))
    c.height_of.ensures.value
    ∙ ap (λ (n : ℕ). old ++ ticks s c.args.rate n) (sym (add-one k))
