use Rattle.std.proofs.Common.{IsTrue, subst, sym}
use Rattle.std.proofs.lemmas.Result.{IfOk-weaker}
use Rattle.bw_recovery.specs.Paths.{wave_path}
use Rattle.bw_takes.proofs.VerifyingLemmas.{wrong_found}
use Rattle.bw_takes.proofs.judging.find_wrong.Goals as goal

pub returns-clause-word : goal.returns-clause-word
returns-clause-word g c = λ honest.
    let e = c.in_ok-take.ensures in
    let same = c.examine_in_form.ensures.disk in
    IfOk-weaker c.judge_found.result _ _
    (λ word is. wrong_found c.args.receipt.now _ _ _ _ _ _ _ (e.judged honest)
    (same.contents honest (wave_path c.args.folder.now c.args.receipt.now.name)) (e.digest honest) is)
    (c.judge_found.ensures.word (subst IsTrue (sym same.honest) honest))
