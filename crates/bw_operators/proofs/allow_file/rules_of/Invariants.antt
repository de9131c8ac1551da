use Rattle.std.proofs.Common.{◌≡◌, take}
use Rattle.bw_operators.specs.AllowFiles.{SayRules, texts}
use Rattle.bw_operators.proofs.allow_file.rules_of.Given as goal

-- the lines so far, which are counted, say the rules so far
abbrev pub invariant-loop-line : goal.invariant-loop-line
invariant-loop-line l = SayRules (take l.line-index (texts l.line-items)) l.rules.items × (l.number ≡ l.line-index)
