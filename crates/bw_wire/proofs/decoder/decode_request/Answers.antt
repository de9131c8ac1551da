use Rattle.std.proofs.Common.{arith, rules}
use Rattle.std.proofs.lemmas.Grind.{common_steps}
use Rattle.bw_wire.proofs.decoder.decode_request.Goals as goal

pub returns-then-not-is_payload : goal.returns-then-not-is_payload
returns-then-not-is_payload c = search rules

pub request_of-requires-clause-request : goal.request_of-requires-clause-request
request_of-requires-clause-request c = search rules

pub returns : goal.returns
returns c = grind (arith, common_steps)
