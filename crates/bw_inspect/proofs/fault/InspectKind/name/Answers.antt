use Rattle.std.proofs.Common.{rules}
use Rattle.bw_inspect.proofs.fault.InspectKind.name.Goals as goal

pub returns-in-BadCue-clause-value : goal.returns-in-BadCue-clause-value
returns-in-BadCue-clause-value c = search rules
