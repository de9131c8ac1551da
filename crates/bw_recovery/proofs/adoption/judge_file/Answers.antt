use Rattle.std.proofs.Common.{◌∙◌, is_some, sym, ap}
use Rattle.bw_recovery.proofs.JudgedFiles.{judged_ok, judged_err}
use Rattle.bw_recovery.proofs.adoption.judge_file.Goals as goal

pub returns-in-Some-found-clause-ok : goal.returns-in-Some-found-clause-ok
returns-in-Some-found-clause-ok c file sees =
    judged_ok c.args.limit c.args.state.now.parts file c.args.found c.in-Some-found.facts c.judge_opened.result
    (sym c.is_taken.ensures ∙ c.if-is_taken.false) (sym (ap is_some c.format.ensures.value) ∙ c.if-is_none.ensures)
    c.in-Some-found.is sees c.judge_opened.ensures.ok

pub returns-in-Some-found-clause-err : goal.returns-in-Some-found-clause-err
returns-in-Some-found-clause-err c file sees =
    judged_err c.args.limit c.args.state.now.parts file c.args.found c.in-Some-found.facts c.judge_opened.result
    (sym c.is_taken.ensures ∙ c.if-is_taken.false) (sym (ap is_some c.format.ensures.value) ∙ c.if-is_none.ensures)
    c.in-Some-found.is sees c.judge_opened.ensures.err
