use Rattle.std.proofs.Common.{◌≡◌, ◌++◌, map, drop}
use Rattle.serde_json.specs.View.{view}
use Rattle.bw_report.specs.Objects.{chunk_data}
use Rattle.bw_report.proofs.parts.chunks_value.Given as goal

abbrev pub invariant-loop-chunk : goal.invariant-loop-chunk
invariant-loop-chunk l = map view l.values.items ++ map chunk_data (drop l.chunk-index l.chunk-items)
    ≡ map chunk_data l.chunk-items
