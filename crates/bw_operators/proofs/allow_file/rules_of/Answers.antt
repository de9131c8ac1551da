use Rattle.std.proofs.Common.{ap, ◌∙◌, arith}
use Rattle.bw_operators.specs.AllowFiles.{texts}
use Rattle.bw_operators.proofs.AllowFileLemmas.{first_bad, rules_more, when_false, when_true}
use Rattle.bw_operators.proofs.allow_file.rules_of.Goals as goal

pub returns-then-not-branch : goal.returns-then-not-branch
returns-then-not-branch c = first_bad _ c.deref-line-items.result.now c.loop-line.line-index _ c.loop-line.number
    c.loop-line.rules.items (ap texts c.deref-line-items.ensures.value ∙ c.in_ok-lines.ensures) c.loop-line-test.true
    c.loop-line.invariant.0 c.loop-line.invariant.1
    (when_false c.in_ok-put_rule.field-0 _ _ c.in_ok-put_rule.ensures cc)

pub loop-line-preserved : goal.loop-line-preserved
loop-line-preserved c = (
  rules_more c.deref-line-items.result.now c.loop-line.line-index _ c.loop-line.rules.items _ c.loop-line-test.true
      c.loop-line.invariant.0 (when_true c.in_ok-put_rule.field-0 _ _ c.in_ok-put_rule.ensures cc),
  omega arith,
)
