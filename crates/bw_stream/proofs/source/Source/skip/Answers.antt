use Rattle.std.proofs.lemmas.Grind.{elements}
use Rattle.std.proofs.Common.{rules, arith}
use Rattle.bw_stream.proofs.source.Source.skip.Goals as goal

pub returns-clause-moved : goal.returns-clause-moved
returns-clause-moved g c = search rules

pub returns-clause-ok : goal.returns-clause-ok
returns-clause-ok g c = grind (arith, elements)
