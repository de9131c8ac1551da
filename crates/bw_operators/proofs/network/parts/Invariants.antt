use Rattle.std.proofs.Common.{◌≡◌, ◌++◌, List, ℕ, length}
use Rattle.bw_operators.specs.AllowWords.{HasNoSlash}
use Rattle.bw_operators.proofs.network.parts.Given as goal

-- what is left is followed by bytes of which none is a slash
abbrev pub invariant-loop-last : goal.invariant-loop-last
invariant-loop-last l = (tail : List ℕ) × (l.word ≡ l.left ++ tail) × HasNoSlash tail

abbrev pub decreases-loop-last : goal.decreases-loop-last
decreases-loop-last l = length l.left
