use Rattle.std.proofs.lemmas.Result.{IfOk-weaker}
use Rattle.bw_take_files.proofs.LineLemmas.{text_line_says}
use Rattle.bw_take_files.proofs.receipts.line.receipt_in_line.Goals as goal

pub returns-in-None : goal.returns-in-None
returns-in-None c =
    let cases = c.in-Ok.ensures.cases in
    IfOk-weaker c.receipt_in_json.result _ _
    (λ found m. text_line_says c.in-Ok.text.now c.args.line.now found cases.0 cases.1 (λ r x. c.in-None.ensures r x) m)
    c.receipt_in_json.ensures
