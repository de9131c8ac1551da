use Rattle.std.proofs.Common.{Some, ap}
use Rattle.bw_wire.specs.Reasons.{reason_meaning}
use Rattle.bw_commands.proofs.Staging.{body_read, says_inj, not_ask, not_bye, not_bad}
use Rattle.bw_commands.proofs.simulation.message_in.Goals as goal

pub returns-in-Ok-Message : goal.returns-in-Ok-Message
returns-in-Ok-Message c = λ m framed.
    ap Some (says_inj _ c.in-Ok-Message.field-0 c.in-Ok-Message.message m c.in-Ok-Message.field-0-is
    c.in-Ok-Message.ensures.exact (body_read m c.args.frame.now framed))

pub returns-in-Ok-Ask : goal.returns-in-Ok-Ask
returns-in-Ok-Ask c = λ m framed.
    absurd (not_ask _ c.in-Ok-Ask.field-0 c.in-Ok-Ask._ask m c.in-Ok-Ask.field-0-is
    c.in-Ok-Ask.ensures.exact (body_read m c.args.frame.now framed))

pub returns-in-Ok-Bye : goal.returns-in-Ok-Bye
returns-in-Ok-Bye c = λ m framed.
    absurd (not_bye _ c.in-Ok-Bye.field-0 m c.in-Ok-Bye.field-0-is
    c.in-Ok-Bye.ensures.exact (body_read m c.args.frame.now framed))

pub returns-in-Err : goal.returns-in-Err
returns-in-Err c = λ m framed.
    absurd (not_bad _ (reason_meaning c.in-Err._reason) m c.in-Err.ensures.exact
    (body_read m c.args.frame.now framed))
