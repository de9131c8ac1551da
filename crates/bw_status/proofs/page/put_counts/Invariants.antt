use Rattle.std.proofs.Common.{◌≡◌, ◌++◌, drop}
use Rattle.bw_status.specs.Pages.{counts_facts}
use Rattle.bw_status.proofs.page.put_counts.Given as goal

abbrev pub invariant-loop-count : goal.invariant-loop-count
invariant-loop-count l = l.out.items ++ counts_facts (drop l.count-index l.counts)
    ≡ l.fn.out.items ++ counts_facts l.counts
