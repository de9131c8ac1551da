use Rattle.bw_wire.proofs.BodyLaws.{ask_body}
use Rattle.bw_wire.proofs.message.Ask.name.Goals as goal

pub body_name-requires : goal.body_name-requires
body_name-requires c = (ask_body c.args.self.now.body.now c.args.self.now.spells).addressed
