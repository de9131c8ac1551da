use Rattle.std.proofs.Common.{rules}
use Rattle.bw_console.proofs.fault.Fault.exit.Goals as goal

pub returns-in-Unwritable : goal.returns-in-Unwritable
returns-in-Unwritable c = search rules
