use Rattle.bw_end_to_end.proofs.ConnectionLinks.{connections_answer}
use Rattle.bw_end_to_end.proofs.law_served.Goals as goal

pub returns : goal.returns
returns g c = record { connections = connections_answer _ }
