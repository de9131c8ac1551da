use Rattle.std.proofs.Common.{rules}
use Rattle.bw_store.proofs.Names.{stands_iff}
use Rattle.bw_store.proofs.memory.MemoryStore.name_count.Goals as goal

pub returns-clause-names : goal.returns-clause-names
returns-clause-names c = record {
  ordered = c.keys.ensures.ordered;
  each = λ name. stands_iff c.args.self.now.files name (rw c.keys.ensures.rest at (c.keys.ensures.has name));
}

pub returns-clause-count : goal.returns-clause-count
returns-clause-count c = search rules
