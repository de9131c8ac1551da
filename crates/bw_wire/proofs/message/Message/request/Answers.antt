use Rattle.std.proofs.Common.{◌≡◌, sym, ◌∙◌, ap, subst, arith}
use Rattle.std.specs.Prelude.{slice_index}
use Rattle.bw_model.specs.Wire.{is_request, payload_in, request_of}
use Rattle.bw_model.specs.Requests.{meaning}
use Rattle.bw_wire.specs.Addresses.{HasAddress}
use Rattle.bw_wire.specs.Bodies.{body_request}
use Rattle.bw_wire.proofs.BodyLaws.{message_body, message_request}
use Rattle.bw_wire.proofs.message.Message.request.Goals as goal

pub bounds-self-0 : goal.bounds-self-0
bounds-self-0 c = omega (arith, (message_body c.args.self.now.body.now c.args.self.now.spells).addressed.some)

pub after_kind-requires : goal.after_kind-requires
after_kind-requires c = (message_body c.args.self.now.body.now c.args.self.now.spells).addressed.some

pub payload-requires : goal.payload-requires
payload-requires c = subst HasAddress (sym c.after_kind.ensures)
    (message_body c.args.self.now.body.now c.args.self.now.spells).addressed.address

pub request_of-requires-clause-request : goal.request_of-requires-clause-request
request_of-requires-clause-request c = (message_body c.args.self.now.body.now c.args.self.now.spells).kind

pub request_of-requires-clause-payload : goal.request_of-requires-clause-payload
request_of-requires-clause-payload c =
    rw (c.payload.ensures, c.after_kind.ensures) (message_body c.args.self.now.body.now c.args.self.now.spells).payload

same_request : (c : goal.After-request_of) → meaning c.request_of.result ≡ body_request c.args.self.now.body.now
unfolding body_request
same_request c =
    c.request_of.ensures
    ∙ ap (request_of (slice_index c.args.self.now.body.now 0)) (c.payload.ensures ∙ ap payload_in c.after_kind.ensures)

pub returns-clause-value : goal.returns-clause-value
returns-clause-value c = same_request c

pub returns-clause-fits : goal.returns-clause-fits
returns-clause-fits c = ap is_request (same_request c) ∙ message_request c.args.self.now.body.now c.args.self.now.spells
