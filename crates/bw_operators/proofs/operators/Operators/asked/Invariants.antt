use Rattle.bw_operators.proofs.PlacedLemmas.{IsOldestBelow}
use Rattle.bw_operators.proofs.operators.Operators.asked.Given as goal

-- of the places below it is the oldest at which a request is to be answered
abbrev pub invariant-loop-place : goal.invariant-loop-place
invariant-loop-place g l = IsOldestBelow l.self l.place l.oldest
