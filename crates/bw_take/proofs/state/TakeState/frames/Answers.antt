use Rattle.std.proofs.Common.{rules}
use Rattle.bw_take.proofs.state.TakeState.frames.Goals as goal

pub returns-in-Some : goal.returns-in-Some
returns-in-Some c = search rules
