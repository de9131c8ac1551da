use Rattle.std.proofs.Common.{arith}
use Rattle.std.proofs.lemmas.Grind.{common_steps}
use Rattle.bw_upload.proofs.text.put_counts.Goals as goal

pub returns : goal.returns
returns c = grind (arith, common_steps)
