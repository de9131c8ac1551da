use Rattle.bw_wire.proofs.BodyLaws.{message_body}
use Rattle.bw_wire.proofs.message.Message.name.Goals as goal

pub body_name-requires : goal.body_name-requires
body_name-requires c = (message_body c.args.self.now.body.now c.args.self.now.spells).addressed
