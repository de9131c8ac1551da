use Rattle.bw_delivery.proofs.StoppedWorlds.{stopped_worlds}
use Rattle.bw_delivery.proofs.server_lives.law_stopped_worlds.Goals as goal

pub returns : goal.returns
returns c = stopped_worlds
