use Rattle.std.proofs.Common.{◌≡◌, take}
use Rattle.std.specs.Prelude.{fold}
use Rattle.bw_plan.specs.Recordings.{with_setting}
use Rattle.bw_plan.proofs.outline.Outline.apply.Given as goal

abbrev pub invariant-loop-i : goal.invariant-loop-i
invariant-loop-i l = l.self ≡ fold with_setting l.fn.self (take l._i l.settings)
