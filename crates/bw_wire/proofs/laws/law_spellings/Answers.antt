use Rattle.bw_model.proofs.SpellingLaws.{decodes_spellings}
use Rattle.bw_wire.proofs.laws.law_spellings.Goals as goal

pub returns : goal.returns
returns c = decodes_spellings
