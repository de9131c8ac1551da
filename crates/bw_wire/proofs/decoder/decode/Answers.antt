use Rattle.std.proofs.Common.{◌≡◌, ◌==◌, length, Bool, true, false, cond, Ok, Err, refl, sym, ◌∙◌, ap, arith}
use Rattle.bw_model.specs.Wire as model
use Rattle.bw_wire.specs.declared.message.Frame.TheVariants.{Bye}
use Rattle.bw_wire.specs.declared.reason.Reason.TheVariants.{Payload}
use Rattle.bw_wire.specs.Frames.{frame_read}
use Rattle.bw_wire.specs.Reasons.{reason_meaning}
use Rattle.bw_wire.proofs.BodyLaws.{message_body, ask_body}
use Rattle.bw_wire.proofs.Decoding.{following, decoded-empty, decoded-bye, decoded-fault, is_ask, is_message}
use Rattle.bw_wire.proofs.decoder.decode.Goals as goal

read_bye : (empty : Bool) →
    frame_read (cond empty (Ok Bye) (Err Payload)) ≡ cond empty (Ok model.Bye) (Err model.Payload)
read_bye true = refl
read_bye false = refl

pub returns-in_default-clause-exact : goal.returns-in_default-clause-exact
returns-in_default-clause-exact c = sym (decoded-empty c.args.body.now c.in_default.len_below)

pub returns-then-kind-eq-BYE-clause-exact : goal.returns-then-kind-eq-BYE-clause-exact
returns-then-kind-eq-BYE-clause-exact c =
    ap frame_read c.bye.ensures
    ∙ read_bye (length (following c.args.body.now) == 0)
    ∙ sym (decoded-bye c.args.body.now c.in-len1-up.len_at_least c.if-kind-eq-BYE.true)

pub returns-in-Some-clause-exact : goal.returns-in-Some-clause-exact
returns-in-Some-clause-exact c =
    sym (decoded-fault c.args.body.now
    (reason_meaning c.in-Some.reason) c.in-len1-up.len_at_least c.if-kind-eq-BYE.false c.in-Some.ensures)

pub invariant_of-result : goal.invariant_of-result
invariant_of-result c = record {
  spells = is_ask c.args.body.now
      (λ i. omega (arith, c.type_inv.body i)) c.in-len1-up.len_at_least c.if-kind-eq-BYE.false
      c.in_default-fault.ensures
      c.if-kind-eq-ASK.true;
}

pub returns-then-kind-eq-ASK-clause-exact : goal.returns-then-kind-eq-ASK-clause-exact
returns-then-kind-eq-ASK-clause-exact c =
    sym (ask_body c.args.body.now
    (is_ask c.args.body.now
    (λ i. omega (arith, c.type_inv.body i)) c.in-len1-up.len_at_least c.if-kind-eq-BYE.false
    c.in_default-fault.ensures c.if-kind-eq-ASK.true)).read

pub invariant_of-result-2 : goal.invariant_of-result-2
invariant_of-result-2 c = record {
  spells = is_message c.args.body.now
      (λ i. omega (arith, c.type_inv.body i)) c.in-len1-up.len_at_least c.if-kind-eq-BYE.false
      c.in_default-fault.ensures
      c.if-kind-eq-ASK.false;
  hashed = λ x none. cc;
}

pub returns-clause-exact : goal.returns-clause-exact
returns-clause-exact c =
    sym (message_body c.args.body.now
    (is_message c.args.body.now
    (λ i. omega (arith, c.type_inv.body i)) c.in-len1-up.len_at_least c.if-kind-eq-BYE.false
    c.in_default-fault.ensures c.if-kind-eq-ASK.false)).read
