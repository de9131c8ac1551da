use Rattle.std.proofs.Common.{sym}
use Rattle.bw_file.proofs.Ranges.{differs, agrees, all_same, same_below_next, first_differs}
use Rattle.bw_file.proofs.change.changed_range.Goals as goal

pub returns-then-ne-clause-some : goal.returns-then-ne-clause-some
returns-then-ne-clause-some c =
    first_differs _ _ _ c.loop-tag.invariant _ (sym c.in-Some.ensures.place) (differs _ _ _ c.ne.ensures c.if-ne.true)

pub loop-tag-preserved : goal.loop-tag-preserved
loop-tag-preserved c =
    same_below_next _ _ _ c.loop-tag.invariant _ (sym c.in-Some.ensures.place) (agrees _ _ _ c.ne.ensures c.if-ne.false)

pub returns-clause-none : goal.returns-clause-none
returns-clause-none c = all_same _ _ _ c.loop-tag.invariant c.loop-tag-test.false
