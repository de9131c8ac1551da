use Rattle.std.proofs.Common.{◌≡◌, ◌++◌, map, drop}
use Rattle.serde_json.specs.View.{view}
use Rattle.bw_status.specs.Objects.{left_out_data}
use Rattle.bw_status.proofs.json.left_outs_value.Given as goal

abbrev pub invariant-loop-name : goal.invariant-loop-name
invariant-loop-name l = map view l.values.items ++ map left_out_data (drop l.name-index l.names)
    ≡ map left_out_data l.names
