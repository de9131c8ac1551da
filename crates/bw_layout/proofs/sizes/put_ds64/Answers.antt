use Rattle.std.proofs.Common.{arith}
use Rattle.std.proofs.lemmas.List.{append_assoc}
use Rattle.bw_layout.specs.Tables.{ds64_with_table}
use Rattle.bw_layout.proofs.sizes.put_ds64.Goals as goal

pub returns : goal.returns
unfolding ds64_with_table
returns c = grind (arith, append_assoc)
