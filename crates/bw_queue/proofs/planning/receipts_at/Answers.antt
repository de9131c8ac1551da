use Rattle.std.proofs.Common.{Global, List, Option, Some, Vec, option_map, subst, sym, ℕ}
use Rattle.bw_queue.specs.QueueSides.{disk_reads}
use Rattle.bw_queue.proofs.PlanningLemmas.{receipts_given}
use Rattle.bw_queue.proofs.planning.receipts_at.Goals as goal

pub returns-in-Ok-Some-clause-receipts : goal.returns-in-Ok-Some-clause-receipts
returns-in-Ok-Some-clause-receipts g c =
    let reads = disk_reads g.D.Disk c.args.disk.now in
    receipts_given reads c.args.path c.in-Some.path c.deref.result.now c.receipts_of.result c.in-Some.is
    (subst (λ (text : List ℕ). reads c.in-Some.path.now (Some text)) (sym c.deref.ensures.value)
    (subst (λ (found : Option (Vec ℕ Global)). reads c.in-Some.path.now (option_map (λ text. text.items) found))
    c.in-Ok-Some.field-0-is c.in-Ok-Some.ensures.text))
    c.receipts_of.ensures
