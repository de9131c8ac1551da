use Rattle.std.proofs.Common.{rules}
use Rattle.bw_take_files.proofs.LineLemmas.{object_says}
use Rattle.bw_take_files.proofs.receipts.object.receipt_in_json.Goals as goal

pub returns-in-Ok : goal.returns-in-Ok
returns-in-Ok c = object_says c.args.line.now _ _ c.in-Ok.ensures.ok c.receipt_in_value.ensures
