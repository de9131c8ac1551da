use Rattle.std.proofs.Common.{◌≡◌, ◌+◌, ◌<◌, length, true, false, ap, sym, ◌∙◌, arith, rules}
use Rattle.std.specs.Prelude.{is_some}
use Rattle.std.proofs.lemmas.List.{take_all}
use Rattle.bw_session.specs.Windows.{count_held}
use Rattle.bw_session.proofs.Slots.{copied-some, count_more, count_same}
use Rattle.bw_session.proofs.window.Window.count.Goals as goal
use Rattle.bw_session.proofs.window.Window.count.Goals.{then-is_some, else-is_some}

pub loop-slot-preserved : goal.loop-slot-preserved
loop-slot-preserved c =
    let few = c.loop-slot.invariant.few in
    let slots = c.get.ensures.slots in
    let below : c.loop-slot.slot < length c.args.self.now = omega arith in
    elim c.if-is_some.branch [
      | then-is_some w ↦
          let some : is_some c.get.result ≡ true = search rules in
          record {
            counted = w.count-is ∙ (ap (λ n. n + 1) c.loop-slot.invariant.counted
                ∙ sym (count_more c.args.self.now c.loop-slot.slot below
                (copied-some c.get.result _ true c.get.ensures.value some)));
            few = omega arith;
          }
      | else-is_some w ↦
          let none : is_some c.get.result ≡ false = search rules in
          record {
            counted = w.count-is ∙ (c.loop-slot.invariant.counted
                ∙ sym (count_same c.args.self.now c.loop-slot.slot below
                (copied-some c.get.result _ false c.get.ensures.value none)));
            few = omega arith;
          }
    ]

pub returns-clause-value : goal.returns-clause-value
returns-clause-value c =
    c.loop-slot.invariant.counted ∙ ap count_held (take_all c.loop-slot.slot c.args.self.now (search rules))
