use Rattle.std.proofs.Common.{◌≡◌, ◌∙◌, ap, rules}
use Rattle.std.proofs.lemmas.Result.{IfOk-weaker}
use Rattle.serde_json.specs.Data.{null, string}
use Rattle.serde_json.specs.View.{view}
use Rattle.serde_json.specs.declared.value.Value.{Null, the_lemmas}
use Rattle.bw_report.proofs.Utf8Texts.{text_data-other, text_data-utf8}
use Rattle.bw_report.proofs.value.text_value.Goals as goal

pub returns-in-Ok : goal.returns-in-Ok
returns-in-Ok c = IfOk-weaker c.try_from_str.result _ _
    (λ v is. is ∙ ap string c.in-Ok.ensures.cases.0 ∙ text_data-utf8 _ c.in-Ok.ensures.cases.1) c.try_from_str.ensures

pub returns-in-Err : goal.returns-in-Err
returns-in-Err c =
    let is : view Null ≡ null = search (rules, the_lemmas) in
    is ∙ text_data-other _ c.in-Err.ensures.cases.0
