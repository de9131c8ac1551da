use Rattle.std.proofs.Common.{◌≡◌, take}
use Rattle.std.specs.Prelude.{fold}
use Rattle.bw_plan.specs.Warnings.{chunk_warned}
use Rattle.bw_plan.specs.ReportedWarnings.{warning_meanings}
use Rattle.bw_plan.proofs.warning.warn_of_chunks.Given as goal

abbrev pub invariant-loop-i : goal.invariant-loop-i
invariant-loop-i l = warning_meanings l.out.items ≡ fold chunk_warned (warning_meanings l.fn.out.items) (take l._i l.chunks)
