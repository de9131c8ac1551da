use Rattle.bw_program.proofs.RequestLemmas.{asked_with, asked_without}
use Rattle.bw_program.proofs.sources.send_file_asked.Goals as goal

pub returns-in-None : goal.returns-in-None
returns-in-None g c = asked_without _ _ _ _ _ _ _ c.in-None.is c.send_file_there.ensures

pub returns-in-Some : goal.returns-in-Some
returns-in-Some g c = asked_with _ _ _ _ _ _ _ c.in-Some.is c.send_with_receipt.ensures
