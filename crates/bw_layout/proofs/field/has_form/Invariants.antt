use Rattle.std.proofs.Common.{◌≡◌, drop}
use Rattle.bw_model.specs.Take.{matches}
use Rattle.bw_layout.proofs.field.has_form.Given as goal

abbrev pub invariant-loop-i : goal.invariant-loop-i
invariant-loop-i l = matches l.form l.value ≡ matches (drop l.i l.form) (drop l.i l.value)
