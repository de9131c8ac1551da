use Rattle.bw_wire.proofs.BodyLaws.{message_body}
use Rattle.bw_wire.proofs.message.Message.number.Goals as goal

pub body_number-requires : goal.body_number-requires
body_number-requires c = (message_body c.args.self.now.body.now c.args.self.now.spells).addressed
