use Rattle.bw_progress.proofs.measuring.report_at.Goals as goal

pub returns-in-Ok-inspect-clause-report : goal.returns-in-Ok-inspect-clause-report
returns-in-Ok-inspect-clause-report g c = λ b e. (_, c.in-Ok-inspect.ensures.ok b (c.in-Ok.ensures.ok b e))
