-- The sender and the network of a rehearsal, as those of a world.
use Rattle.std.specs.Prelude.{◌≡◌, length, map}
use Rattle.bw_model.specs.World.{World}
use Rattle.bw_wire.specs.Replies.{reply_of}
use Rattle.bw_sender.specs.Senders.{IsSender}
use Rattle.bw_commands.specs.Simulations.{AreFrames}
use Rattle.bw_delivery.specs.declared.network.Network.{Network}

-- The sender is that of the world, and so is all that was sent and written.
pub record IsNetwork (w : World) (n : Network) : Type 0 where
  pub sender : IsSender w.sender n.sender
  pub offered : n.offered ≡ length w.sender.offered
  pub sent : AreFrames w.sent n.sent.items
  pub replies : map reply_of n.replies.items ≡ w.replies
