use Rattle.std.proofs.Common.{◌≡◌, ◌++◌}
use Rattle.bw_picture.specs.Pages.{ticks}
use Rattle.bw_picture.proofs.page.put_ticks.Given as goal

abbrev pub invariant-loop-k : goal.invariant-loop-k
invariant-loop-k l = l.text.items ≡ l.initial.text.items ++ ticks l.shape l.rate l.k
