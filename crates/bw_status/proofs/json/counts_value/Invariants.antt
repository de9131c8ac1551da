use Rattle.std.proofs.Common.{◌≡◌, ◌++◌, map, drop}
use Rattle.serde_json.specs.View.{view}
use Rattle.bw_status.specs.Objects.{count_data}
use Rattle.bw_status.proofs.json.counts_value.Given as goal

abbrev pub invariant-loop-count : goal.invariant-loop-count
invariant-loop-count l = map view l.values.items ++ map count_data (drop l.count-index l.counts) ≡ map count_data l.counts
