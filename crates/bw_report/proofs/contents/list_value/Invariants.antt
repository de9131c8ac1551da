use Rattle.std.proofs.Common.{◌≡◌, ◌++◌, map, drop}
use Rattle.serde_json.specs.View.{view}
use Rattle.bw_report.specs.ContentTexts.{said_data}
use Rattle.bw_report.proofs.contents.list_value.Given as goal

abbrev pub invariant-loop-content : goal.invariant-loop-content
invariant-loop-content l = map view l.values.items ++ map said_data (drop l.content-index l.contents)
    ≡ map said_data l.contents
