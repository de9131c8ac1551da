use Rattle.std.proofs.Common.{◌∙◌, ap, Some}
use Rattle.std.proofs.lemmas.Result.{IfOk-weaker}
use Rattle.serde_json.specs.Written.{compact_text}
use Rattle.bw_status.proofs.SnapshotShapes.{snapshot-depth, snapshot-has_float}
use Rattle.bw_status.proofs.json.snapshot_json.Goals as goal

pub returns-clause-text : goal.returns-clause-text
returns-clause-text c =
    let none = snapshot-has_float c.args.snapshot.now in
    IfOk-weaker c.to_string.result _ _
    (λ t is. is (rw c.in_ok-value.ensures none) ∙ ap compact_text c.in_ok-value.ensures) c.to_string.ensures.text

pub returns-clause-reads_back : goal.returns-clause-reads_back
returns-clause-reads_back c =
    let few = snapshot-depth c.args.snapshot.now in
    IfOk-weaker c.to_string.result _ _
    (λ t is. is (rw c.in_ok-value.ensures few) ∙ ap Some c.in_ok-value.ensures) c.to_string.ensures.reads_back
