use Rattle.std.proofs.Common.{◌≡◌, rules, sym, subst}
use Rattle.bw_disk.specs.Volumes.{AreDistinct}
use Rattle.bw_recovery.proofs.SortedNames.{distinct_in_order}
use Rattle.bw_recovery.proofs.listing.in_order.Goals as goal

pub returns-in-Ok-clause-distinct : goal.returns-in-Ok-clause-distinct
returns-in-Ok-clause-distinct c =
    let same : c.in-Ok.list.items ≡ c.args.names.keys = search rules in
    subst AreDistinct (sym same) (distinct_in_order c.args.names.keys c.into_iter.ensures.into_iter_gives.4)
