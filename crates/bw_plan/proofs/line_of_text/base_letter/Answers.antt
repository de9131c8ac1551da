use Rattle.bw_plan.proofs.CleanTexts.{first_letter}
use Rattle.bw_plan.proofs.line_of_text.base_letter.Goals as goal

pub returns : goal.returns
returns c =
    first_letter c.args.c c.decomposition.result.now c.index-decomposition-0.result c.decomposition.ensures.value
    c.decomposition.ensures.len.0 c.index-decomposition-0.is
