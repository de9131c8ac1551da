use Rattle.std.proofs.Common.{rules}
use Rattle.bw_store.proofs.Names.{updates_others}
use Rattle.bw_store.proofs.memory.make.Goals as goal

pub returns-in-Ok-clause-others : goal.returns-in-Ok-clause-others
returns-in-Ok-clause-others c =
    rw c.copy.ensures at (updates_others c.args.files.now c.insert.new.self c.copy.result _ c.in-Ok.ensures.updates)

pub returns-in-Ok-clause-created : goal.returns-in-Ok-clause-created
returns-in-Ok-clause-created c = search rules
