use Rattle.bw_wire.proofs.BodyLaws.{message_spelled, message_length}
use Rattle.bw_wire.proofs.message.Message.body.Goals as goal

pub returns-clause-spelled : goal.returns-clause-spelled
returns-clause-spelled c = message_spelled c.args.self.now.body.now c.args.self.now.spells

pub returns-clause-length : goal.returns-clause-length
returns-clause-length c = message_length c.args.self.now.body.now c.args.self.now.spells
