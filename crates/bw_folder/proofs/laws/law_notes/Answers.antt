use Rattle.bw_folder.proofs.FileNoteLaws.{writes_are_noted}
use Rattle.bw_folder.proofs.laws.law_notes.Goals as goal

pub returns : goal.returns
returns c = writes_are_noted
