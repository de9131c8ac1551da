use Rattle.std.proofs.Common.{rules}
use Rattle.bw_take.proofs.state.TakeState.set_taken.Goals as goal

pub returns-clause-parts : goal.returns-clause-parts
returns-clause-parts c = search rules
