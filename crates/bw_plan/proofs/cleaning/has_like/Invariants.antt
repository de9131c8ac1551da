use Rattle.std.proofs.Common.{◌≡◌, drop}
use Rattle.bw_plan.specs.CleanedContents.{is_like}
use Rattle.bw_plan.proofs.cleaning.has_like.Given as goal

abbrev pub invariant-loop-i : goal.invariant-loop-i
invariant-loop-i l = is_like l.form l.text ≡ is_like (drop l.i l.form) (drop l.i l.text)
