use Rattle.std.proofs.Common.{◌≡◌, ◌+◌, ◌-◌, ℕ, suc, take, subst, arith, refl}
use Rattle.bw_journal.proofs.StuffLaws.{IsStuffedFrom, only_end, two_places, two_put, one_put, all_put}
use Rattle.bw_journal.proofs.line.stuff.Goals.{then-byte-lt-ADDED, else-byte-lt-ADDED}
use Rattle.bw_journal.proofs.line.stuff.Goals as goal

pub loop-step-init : goal.loop-step-init
loop-step-init c =
    only_end c.args.bytes.now c.args.len (c.args.len - 0) _ c.requires.within c.requires.room (omega arith) refl

pub overflow_sub-place-then-byte-lt-ADDED : goal.overflow_sub-place-then-byte-lt-ADDED
overflow_sub-place-then-byte-lt-ADDED c =
    let i = c.args.len - 1 - c.loop-step.step in
    let next : c.args.len - c.loop-step.step ≡ suc i = omega arith in
    let h : IsStuffedFrom (take c.args.len c.args.bytes.now) c.loop-step.bytes (suc i) c.loop-step.place =
    subst (λ (n : ℕ). IsStuffedFrom (take c.args.len c.args.bytes.now) c.loop-step.bytes n c.loop-step.place) next
    c.loop-step.invariant in
    omega (arith, two_places _ c.loop-step.bytes i c.loop-step.place h c.if-byte-lt-ADDED.true)

pub loop-step-preserved : goal.loop-step-preserved
loop-step-preserved c =
    let i = c.args.len - 1 - c.loop-step.step in
    let next : c.args.len - c.loop-step.step ≡ suc i = omega arith in
    let h : IsStuffedFrom (take c.args.len c.args.bytes.now) c.loop-step.bytes (suc i) c.loop-step.place =
    subst (λ (n : ℕ). IsStuffedFrom (take c.args.len c.args.bytes.now) c.loop-step.bytes n c.loop-step.place) next
    c.loop-step.invariant in
    let last : i ≡ c.args.len - (c.loop-step.step + 1) = omega arith in
    subst (λ (n : ℕ). IsStuffedFrom (take c.args.len c.args.bytes.now) c.if-byte-lt-ADDED.bytes n c.if-byte-lt-ADDED.place) last
    (elim c.if-byte-lt-ADDED.branch [
      | then-byte-lt-ADDED w ↦ two_put _ c.loop-step.bytes i c.loop-step.place h _ _ _ _ w.if-byte-lt-ADDED.true refl refl w.bytes-is
          w.place-is
      | else-byte-lt-ADDED w ↦ one_put _ c.loop-step.bytes i c.loop-step.place h _ _ _ (omega (arith, w.if-byte-lt-ADDED.false)) refl
          w.bytes-is w.place-is
    ])

pub returns : goal.returns
returns c =
    all_put _ c.loop-step.bytes (c.args.len - c.loop-step.step) c.loop-step.place (omega arith) c.loop-step.invariant
