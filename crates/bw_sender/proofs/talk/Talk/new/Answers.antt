use Rattle.bw_sender.proofs.ListeningSteps.{heard_nothing}
use Rattle.bw_sender.proofs.talk.Talk.new.Goals as goal

pub returns-clause-heard : goal.returns-clause-heard
returns-clause-heard c = heard_nothing _ c.new.ensures
