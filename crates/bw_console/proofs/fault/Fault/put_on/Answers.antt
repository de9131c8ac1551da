use Rattle.std.proofs.Common.{arith}
use Rattle.std.proofs.lemmas.Grind.{elements}
use Rattle.bw_console.proofs.fault.Fault.put_on.Goals as goal

pub returns-in-NotEvent-clause-text : goal.returns-in-NotEvent-clause-text
returns-in-NotEvent-clause-text c = grind (arith, elements)

pub returns-in-NotRequest-clause-text : goal.returns-in-NotRequest-clause-text
returns-in-NotRequest-clause-text c = grind (arith, elements)
