use Rattle.bw_model.specs.Wire.{Length, Cut}
use Rattle.bw_model.specs.Stream.{longest_body}
use Rattle.bw_wire.specs.Reasons.{reason_meaning}
use Rattle.bw_wire.proofs.FramePrefixes.{first_frame-framing, partial_is_short, bad_prefix, bye_prefix, message_prefix}
use Rattle.bw_wire.proofs.FramePrefixes.{ask_prefix}
use Rattle.bw_wire.proofs.frame_prefix.frame_prefix_of.Goals as goal

pub returns-in-Partial : goal.returns-in-Partial
returns-in-Partial c = (
  first_frame-framing c.args.bytes.now Cut c.in-Partial.ensures,
  partial_is_short longest_body c.args.bytes.now c.in-Partial.ensures,
)

pub returns-in-Bad : goal.returns-in-Bad
returns-in-Bad c = (first_frame-framing c.args.bytes.now Length c.in-Bad.ensures, λ e. cc)

pub returns-in-Err : goal.returns-in-Err
returns-in-Err c = bad_prefix c.args.bytes.now c.in-Body.len
    (reason_meaning c.in-Err.reason) c.in-Body.ensures c.in-Err.ensures.exact

pub returns-in-Ok-Message : goal.returns-in-Ok-Message
returns-in-Ok-Message c =
    message_prefix c.args.bytes.now c.in-Body.len c.in-Ok-Message.field-0-0.body.now c.in-Body.ensures
    c.in-Ok-Message.field-0-0.spells
    (rw c.in-Ok-Message.field-0-is at c.in-Ok-Message.ensures).borrows

pub returns-in-Ok-Ask : goal.returns-in-Ok-Ask
returns-in-Ok-Ask c =
    ask_prefix c.args.bytes.now c.in-Body.len c.in-Ok-Ask.field-0-0.body.now c.in-Body.ensures
    c.in-Ok-Ask.field-0-0.spells
    (rw c.in-Ok-Ask.field-0-is at c.in-Ok-Ask.ensures).borrows

pub returns-in-Ok-Bye : goal.returns-in-Ok-Bye
returns-in-Ok-Bye c = bye_prefix c.args.bytes.now c.in-Body.len c.in-Body.ensures
    (rw c.in-Ok-Bye.field-0-is at c.in-Ok-Bye.ensures).exact
