use Rattle.std.proofs.Common.{◌≡◌, ◌∙◌, ℕ, suc, ◌+◌, [], ap, arith, drop, sym}
use Rattle.bw_ports.specs.StateReadings.{lines_after}
use Rattle.bw_live.proofs.SeenSteps.{drop_next, drop_past}
use Rattle.bw_live.proofs.keeper.after_lines.Goals as goal

pub returns-in_default : goal.returns-in_default
returns-in_default c =
    c.in_default.ensures.line
    ∙ sym (drop_past (lines_after [] c.args.bytes.now) c.loop-seen._seen c.args.count
    (sym c.loop-seen.invariant ∙ c.in_default.ensures.line) (omega (arith, c.loop-seen-test.true)))

pub loop-seen-preserved : goal.loop-seen-preserved
loop-seen-preserved c =
    let next : suc c.loop-seen._seen ≡ c.loop-seen._seen + 1 = omega arith in
    sym (drop_next (lines_after [] c.args.bytes.now) c.loop-seen._seen _ _
    (sym c.loop-seen.invariant ∙ c.in-Some.ensures.line))
    ∙ ap (λ (k : ℕ). drop k (lines_after [] c.args.bytes.now)) next
