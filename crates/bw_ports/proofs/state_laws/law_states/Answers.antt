use Rattle.bw_ports.proofs.CutStates.{cut_states, other_states, whole_states}
use Rattle.bw_ports.proofs.state_laws.law_states.Goals as goal

pub returns-clause-cut : goal.returns-clause-cut
returns-clause-cut c = cut_states

pub returns-clause-whole : goal.returns-clause-whole
returns-clause-whole c = whole_states

pub returns-clause-others : goal.returns-clause-others
returns-clause-others c = other_states
