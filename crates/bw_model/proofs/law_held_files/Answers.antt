use Rattle.bw_model.proofs.HeldFiles.{held_files, name_taken_known}
use Rattle.bw_model.proofs.law_held_files.Goals as goal

pub returns : goal.returns
returns c = record { files = held_files; taken = name_taken_known }
