use Rattle.std.proofs.Common.{◌≡◌, ◌++◌}
use Rattle.bw_picture.specs.Pages.{middles}
use Rattle.bw_picture.proofs.page.put_middle_of_each.Given as goal

abbrev pub invariant-loop-c : goal.invariant-loop-c
invariant-loop-c l = l.text.items ≡ l.initial.text.items ++ middles l.shape l.c
