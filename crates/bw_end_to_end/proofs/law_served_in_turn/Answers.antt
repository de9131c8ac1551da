use Rattle.bw_end_to_end.proofs.TurnLinks.{runs_answer}
use Rattle.bw_end_to_end.proofs.law_served_in_turn.Goals as goal

pub returns : goal.returns
returns g c = record {
  table = λ rules log. runs_answer _ _ _ _ _ _ _ log;
  folder = λ rules log. runs_answer _ _ _ _ _ _ _ log;
}
