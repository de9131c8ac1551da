use Rattle.std.proofs.Common.{rules, arith}
use Rattle.std.proofs.lemmas.Grind.{common_steps}
use Rattle.bw_folder.proofs.TakePaths.{take_path_injective}
use Rattle.bw_folder.proofs.folder.FolderStore.make.Goals as goal

pub returns-in_default-clause-created : goal.returns-in_default-clause-created
returns-in_default-clause-created g c = search rules

pub returns-in_default-clause-opened : goal.returns-in_default-clause-opened
returns-in_default-clause-opened g c = search rules

pub returns-in_err-file-clause-others : goal.returns-in_err-file-clause-others
returns-in_err-file-clause-others g c = grind (arith, take_path_injective)

pub returns-in_default-clause-others : goal.returns-in_default-clause-others
returns-in_default-clause-others g c = grind (arith, take_path_injective)

pub returns-clause-others : goal.returns-clause-others
returns-clause-others g c = grind (arith, take_path_injective)

pub returns-clause-opened : goal.returns-clause-opened
returns-clause-opened g c = grind (arith, common_steps)
