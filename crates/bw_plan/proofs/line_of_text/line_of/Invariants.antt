use Rattle.std.proofs.Common.{◌≡◌, ◌++◌, drop}
use Rattle.bw_plan.specs.CleanedTexts.{cleaned_after}
use Rattle.bw_plan.proofs.line_of_text.line_of.Given as goal

abbrev pub invariant-loop-i : goal.invariant-loop-i
invariant-loop-i l = l.line.items ++ cleaned_after l.previous (drop l._i l.characters) ≡ cleaned_after 0 l.characters
