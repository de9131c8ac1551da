use Rattle.std.proofs.Common.{rules}
use Rattle.bw_take.proofs.state.TakeState.reserve_for.Goals as goal

pub returns-then-requests-self-clause-enough : goal.returns-then-requests-self-clause-enough
returns-then-requests-self-clause-enough c = search rules
