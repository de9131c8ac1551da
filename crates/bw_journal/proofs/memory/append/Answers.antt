use Rattle.std.proofs.Common.{rules}
use Rattle.bw_store.proofs.Names.{updates_others}
use Rattle.bw_journal.proofs.memory.append.Goals as goal

pub returns-in-Some-clause-others : goal.returns-in-Some-clause-others
returns-in-Some-clause-others c =
    let holds = c.get_mut.follows.holds c.replace_tail.new.content in
    updates_others c.args.notes.now (c.get_mut.follows.lender c.replace_tail.new.content) c.args.name.now _
    (holds.3 (search rules))
