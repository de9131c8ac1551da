use Rattle.std.proofs.Common.{rules}
use Rattle.bw_store.proofs.Names.{updates_others}
use Rattle.bw_store.proofs.memory.write.Goals as goal

pub returns-in-Some-clause-others : goal.returns-in-Some-clause-others
returns-in-Some-clause-others c =
    let holds = c.get_mut.follows.holds c.overwrite.new.content in
    updates_others c.args.files.now (c.get_mut.follows.lender c.overwrite.new.content) c.args.name.now _
    (holds.3 (search rules))
