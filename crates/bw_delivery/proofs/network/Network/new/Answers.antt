use Rattle.std.proofs.Common.{refl, ap, map}
use Rattle.bw_wire.specs.Replies.{reply_of}
use Rattle.bw_commands.proofs.Staging.{no_frames}
use Rattle.bw_delivery.proofs.network.Network.new.Goals as goal

pub returns : goal.returns
returns c = record {
  sender = c.in_ok-sender.ensures;
  offered = refl;
  sent = no_frames _ c.new-2.ensures.items;
  replies = ap (map reply_of) c.new-3.ensures.items;
}
