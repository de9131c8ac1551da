use Rattle.bw_delivery.proofs.MachineForms.{nothing_left}
use Rattle.bw_delivery.proofs.machine.Folder.new.Goals as goal

pub returns : goal.returns
returns c = λ limit. nothing_left limit _ _ c.new-2.ensures.empty c.new.ensures.empty
