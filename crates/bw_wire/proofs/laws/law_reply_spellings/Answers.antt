use Rattle.bw_model.proofs.ReplyLaws.{decodes_reply_spellings}
use Rattle.bw_wire.proofs.laws.law_reply_spellings.Goals as goal

pub returns : goal.returns
returns c = decodes_reply_spellings
