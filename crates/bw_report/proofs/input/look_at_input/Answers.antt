use Rattle.std.proofs.Common.{refl}
use Rattle.bw_report.proofs.input.look_at_input.Goals as goal

pub returns-in-Ok-clause-right : goal.returns-in-Ok-clause-right
returns-in-Ok-clause-right g c = λ b e.
    let gives = c.in-Ok.ensures.ok b e in
    ((record { reading_is = gives.reading_is; is = gives.reports }, refl), refl)

pub returns-in-Err-clause-right : goal.returns-in-Err-clause-right
returns-in-Err-clause-right g c = λ b e met same. (c.in-Err.ensures.err b e).fault met same
