use Rattle.bw_contents.proofs.Utf8Text.{is_utf8-other, is_utf8-text}
use Rattle.bw_contents.proofs.document.is_text.Goals as goal

pub returns-in-Ok : goal.returns-in-Ok
returns-in-Ok c = is_utf8-text _ c.in-Ok.ensures.cases.1

pub returns-in-Err : goal.returns-in-Err
returns-in-Err c = is_utf8-other _ c.in-Err.ensures.cases.0
