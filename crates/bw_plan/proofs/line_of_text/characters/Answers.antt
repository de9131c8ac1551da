use Rattle.std.proofs.Common.{◌∙◌}
use Rattle.std.proofs.lemmas.Result.{IfOk-weaker}
use Rattle.bw_plan.proofs.CleanTexts.{latin_read, utf8_read}
use Rattle.bw_plan.proofs.line_of_text.characters.Goals as goal

pub returns-in-Ok : goal.returns-in-Ok
returns-in-Ok c =
    let is = c.in-Ok.ensures.cases in
    IfOk-weaker c.characters_of_utf8.result _ _ (λ v e. utf8_read c.args.text.now v.items is.1 (e ∙ is.0))
    c.characters_of_utf8.ensures

pub returns-in-Err : goal.returns-in-Err
returns-in-Err c =
    IfOk-weaker c.characters_of_latin.result _ _
    (λ v e. latin_read c.args.text.now v.items c.in-Err.ensures.cases.0 e) c.characters_of_latin.ensures
