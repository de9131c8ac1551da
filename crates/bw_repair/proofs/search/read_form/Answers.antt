use Rattle.bw_repair.proofs.Heads.{no_form_left, no_form_ok}
use Rattle.bw_repair.proofs.search.read_form.Goals as goal

pub returns-in-Err-clause-ok : goal.returns-in-Err-clause-ok
returns-in-Err-clause-ok g c =
    no_form_ok _ c.in-Err.fault _ c.without_form.result c.without_form.ensures (λ b e. c.in-Err.ensures.err b e)

pub returns-in-Err-clause-left : goal.returns-in-Err-clause-left
returns-in-Err-clause-left g c =
    no_form_left _ c.in-Err.fault _ c.without_form.result _ c.without_form.ensures (λ b e. c.in-Err.ensures.err b e)
