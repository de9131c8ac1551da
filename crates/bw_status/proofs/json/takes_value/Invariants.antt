use Rattle.std.proofs.Common.{◌≡◌, ◌++◌, map, drop}
use Rattle.serde_json.specs.View.{view}
use Rattle.bw_status.specs.Objects.{take_data}
use Rattle.bw_status.proofs.json.takes_value.Given as goal

abbrev pub invariant-loop-take : goal.invariant-loop-take
invariant-loop-take l = map view l.values.items ++ map take_data (drop l.take-index l.takes) ≡ map take_data l.takes
