use Rattle.bw_wire.proofs.BodyLaws.{ask_body}
use Rattle.bw_wire.proofs.message.Ask.number.Goals as goal

pub body_number-requires : goal.body_number-requires
body_number-requires c = (ask_body c.args.self.now.body.now c.args.self.now.spells).addressed
