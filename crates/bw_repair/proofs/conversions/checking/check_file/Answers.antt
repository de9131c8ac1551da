use Rattle.std.proofs.Common.{subst, sym}
use Rattle.std.proofs.lemmas.Result.{IfErr-weaker, on_ok_weaker}
use Rattle.bw_repair.specs.Checks.{RefusesBefore}
use Rattle.bw_repair.proofs.Checked.{converted, refused_before}
use Rattle.bw_repair.proofs.conversions.checking.check_file.Goals as goal

pub returns-in-Ok-inspect-clause-ok : goal.returns-in-Ok-inspect-clause-ok
returns-in-Ok-inspect-clause-ok g c =
    on_ok_weaker c.check_id.result (λ is b e.
    converted b c.in-Ok-inspect.report _ c.args.form (c.in-Ok-inspect.ensures.ok b (c.in-Ok.ensures.ok b e)) is)
    c.check_id.ensures.ok

pub returns-in-Ok-inspect-clause-err : goal.returns-in-Ok-inspect-clause-err
returns-in-Ok-inspect-clause-err g c =
    IfErr-weaker c.check_id.result _ _ (λ x refused b e.
    refused_before b c.in-Ok-inspect.report _ c.args.form x (c.in-Ok-inspect.ensures.ok b (c.in-Ok.ensures.ok b e))
    refused) c.check_id.ensures.err

pub returns-clause-err : goal.returns-clause-err
returns-clause-err g c = λ b e.
    subst (RefusesBefore b c.args.form) (sym c.refused_at.ensures)
    (c.in-Err-inspect.ensures.err b (c.in-Ok.ensures.ok b e)).fault
