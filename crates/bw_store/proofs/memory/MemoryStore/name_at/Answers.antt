use Rattle.std.proofs.Common.{arith}
use Rattle.std.proofs.lemmas.Grind.{elements}
use Rattle.bw_store.proofs.Names.{stands_iff}
use Rattle.bw_store.proofs.memory.MemoryStore.name_at.Goals as goal

pub returns-clause-names : goal.returns-clause-names
returns-clause-names c = record {
  ordered = c.keys.ensures.ordered;
  each = λ name. stands_iff c.args.self.now.files name (rw c.keys.ensures.rest at (c.keys.ensures.has name));
}

pub returns-clause-name : goal.returns-clause-name
returns-clause-name c = grind (arith, elements)
