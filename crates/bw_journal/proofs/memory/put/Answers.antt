use Rattle.bw_store.proofs.Names.{updates_others}
use Rattle.bw_journal.proofs.memory.put.Goals as goal

pub returns-in-Ok-clause-others : goal.returns-in-Ok-clause-others
returns-in-Ok-clause-others c =
    rw c.copy.ensures at (updates_others c.args.notes.now c.insert.new.self c.copy.result _ c.in-Ok.ensures.updates)
