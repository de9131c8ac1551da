use Rattle.bw_operators.proofs.SilentLemmas.{IsOldestSilent}
use Rattle.bw_operators.proofs.operators.Operators.longest_silent.Given as goal

-- of the places below it is the oldest that is silent
abbrev pub invariant-loop-place : goal.invariant-loop-place
invariant-loop-place g l = IsOldestSilent l.self l.now l.place l.oldest
