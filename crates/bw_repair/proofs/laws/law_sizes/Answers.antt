use Rattle.bw_repair.proofs.SizeLaws.{sizes_alone}
use Rattle.bw_repair.proofs.laws.law_sizes.Goals as goal

pub returns : goal.returns
returns c = record { alone = sizes_alone }
