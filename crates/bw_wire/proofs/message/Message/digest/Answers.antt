use Rattle.std.proofs.Common.{◌∙◌, ap}
use Rattle.sha2.specs.Sha256.{sha256}
use Rattle.bw_wire.proofs.BodyLaws.{message_spelled}
use Rattle.bw_wire.proofs.message.Message.digest.Goals as goal

pub returns-in-Some : goal.returns-in-Some
returns-in-Some c =
    c.args.self.now.hashed c.in-Some.digest c.in-Some.is
    ∙ ap sha256 (message_spelled c.args.self.now.body.now c.args.self.now.spells).spelled

pub returns-in-None : goal.returns-in-None
returns-in-None c =
    c.digest.ensures
    ∙ ap sha256 (message_spelled c.args.self.now.body.now c.args.self.now.spells).spelled
