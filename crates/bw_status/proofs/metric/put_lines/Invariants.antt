use Rattle.std.proofs.Common.{◌≡◌, ◌++◌, flat_map, drop}
use Rattle.bw_status.specs.Metrics.{count_line}
use Rattle.bw_status.proofs.metric.put_lines.Given as goal

abbrev pub invariant-loop-count : goal.invariant-loop-count
invariant-loop-count l = l.out.items ++ flat_map (count_line l.fn.name l.fn.label) (drop l.count-index l.counts)
    ≡ l.fn.out.items ++ flat_map (count_line l.fn.name l.fn.label) l.counts
