use Rattle.std.proofs.Common.{◌≡◌, ◌++◌, drop}
use Rattle.bw_plan.specs.CleanedContents.{with_separators}
use Rattle.bw_plan.proofs.cleaning.with_separators.Given as goal

abbrev pub invariant-loop-i : goal.invariant-loop-i
invariant-loop-i l =
    with_separators l.form l.text ≡ l.out.items ++ with_separators (drop l.i l.form) (drop l.i l.text)
