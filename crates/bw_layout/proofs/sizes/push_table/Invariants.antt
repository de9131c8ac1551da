use Rattle.std.proofs.Common.{◌*◌, take}
use Rattle.std.specs.Prelude.{flat_map}
use Rattle.bw_layout.specs.AppendedBytes.{Gains}
use Rattle.bw_layout.specs.Tables.{entry_bytes}
use Rattle.bw_layout.proofs.sizes.push_table.Given as goal

abbrev pub invariant-loop-id : goal.invariant-loop-id
invariant-loop-id l = Gains (flat_map entry_bytes (take l.id-index l.table)) (12 * l.id-index) l.initial.out l.out
