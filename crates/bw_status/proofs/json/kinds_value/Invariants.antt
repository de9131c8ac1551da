use Rattle.std.proofs.Common.{◌≡◌, drop, fold}
use Rattle.serde_json.specs.Data.{no_members}
use Rattle.serde_json.specs.View.{members_view}
use Rattle.bw_status.proofs.SnapshotShapes.{with_count}
use Rattle.bw_status.proofs.json.kinds_value.Given as goal

abbrev pub invariant-loop-count : goal.invariant-loop-count
invariant-loop-count l =
    fold with_count (members_view l.members.entries) (drop l.count-index l.counts)
    ≡ fold with_count no_members l.counts
