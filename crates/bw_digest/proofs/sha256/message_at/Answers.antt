use Rattle.std.proofs.Common.{[], sym, arith}
use Rattle.std.proofs.lemmas.List.{get_or-map}
use Rattle.bw_digest.proofs.sha256.message_at.Goals as goal

pub returns : goal.returns
returns c = sym (get_or-map (λ message. message.now) c.args.messages.now c.args.place _ [] (omega arith))
