use Rattle.std.proofs.Common.{IsTrue, inr, sym, subst}
use Rattle.bw_recovery.proofs.PartForms.{moves_after, may_change}
use Rattle.bw_recovery.proofs.resuming.set_aside.Goals as goal

pub returns-in_err-try_aside-clause-part : goal.returns-in_err-try_aside-clause-part
returns-in_err-try_aside-clause-part g c = λ honest.
    let i = c.loop-attempt.invariant in
    moves_after c.args.folder.now c.args.name.now _ _ _ (i.same honest)
    (c.in_err-try_aside.ensures.err (subst IsTrue (sym i.honest) honest))

pub returns-in_err-try_aside-clause-others : goal.returns-in_err-try_aside-clause-others
returns-in_err-try_aside-clause-others g c = λ honest.
    let i = c.loop-attempt.invariant in
    may_change c.args.folder.now c.args.name.now _ _
    (moves_after c.args.folder.now c.args.name.now _ _ _ (i.same honest)
    (c.in_err-try_aside.ensures.err (subst IsTrue (sym i.honest) honest)))

pub returns-then-branch-clause-part : goal.returns-then-branch-clause-part
returns-then-branch-clause-part g c = λ honest.
    let i = c.loop-attempt.invariant in
    moves_after c.args.folder.now c.args.name.now _ _ _ (i.same honest)
    (inr (c.in_ok-try_aside.ensures.moved (subst IsTrue (sym i.honest) honest) c.if-branch.true))

pub returns-then-branch-clause-others : goal.returns-then-branch-clause-others
returns-then-branch-clause-others g c = λ honest.
    let i = c.loop-attempt.invariant in
    may_change c.args.folder.now c.args.name.now _ _
    (moves_after c.args.folder.now c.args.name.now _ _ _ (i.same honest)
    (inr (c.in_ok-try_aside.ensures.moved (subst IsTrue (sym i.honest) honest) c.if-branch.true)))
