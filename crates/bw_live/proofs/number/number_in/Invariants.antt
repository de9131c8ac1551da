use Rattle.std.proofs.Common.{◌≡◌, Some, fold, take}
use Rattle.bw_live.specs.MarkNumbers.{with_next_digit}
use Rattle.bw_live.proofs.number.number_in.Given as goal

abbrev pub invariant-loop-c : goal.invariant-loop-c
invariant-loop-c l = l.number ≡ fold with_next_digit (Some 0) (take l.c-index l.digits)
