use Rattle.std.proofs.Common.{rules, ◌≡◌, Some, arith}
use Rattle.std.proofs.lemmas.Grind.{common_steps}
use Rattle.bw_store.specs.Memory.{content_under as content_of}
use Rattle.bw_journal.specs.Notes.{IsShortOf, Starts}
use Rattle.bw_journal.proofs.Starts.{starts_short}
use Rattle.bw_journal.proofs.memory.start.Goals as goal

pub returns-in-Whole-clause-begun : goal.returns-in-Whole-clause-begun
returns-in-Whole-clause-begun c = grind (arith, common_steps)

pub returns-in-Prefix-clause-begun : goal.returns-in-Prefix-clause-begun
returns-in-Prefix-clause-begun c =
    let short : IsShortOf c.args.header.now (content_of c.args.notes.now c.args.name.now) = search rules in
    let put : content_of c.put.new.notes c.args.name.now ≡ Some c.args.header.now →
    Starts c.args.header.now (content_of c.args.notes.now c.args.name.now)
    (content_of c.put.new.notes c.args.name.now) = λ is. starts_short _ _ _ short is in
    search rules
