use Rattle.bw_model.proofs.StreamLaws.{streams_agree}
use Rattle.bw_wire.proofs.laws.law_streams.Goals as goal

pub returns : goal.returns
returns c = streams_agree
