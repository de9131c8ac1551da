use Rattle.bw_delivery.proofs.AskForms.{asks_inj, body_read}
use Rattle.bw_delivery.proofs.asks.ask_in.Goals as goal

pub returns-in-Ok-Ask : goal.returns-in-Ok-Ask
returns-in-Ok-Ask c = λ name framed.
    asks_inj _ c.in-Ok-Ask.field-0 c.in-Ok-Ask.ask name 0 c.in-Ok-Ask.field-0-is
    c.in-Ok-Ask.ensures.exact (body_read name c.args.frame.now framed)
