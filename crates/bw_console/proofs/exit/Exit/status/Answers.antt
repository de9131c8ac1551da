use Rattle.std.proofs.Common.{rules}
use Rattle.bw_console.proofs.exit.Exit.status.Goals as goal

pub returns-in-Device : goal.returns-in-Device
returns-in-Device c = search rules
