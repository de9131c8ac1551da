use Rattle.std.proofs.Common.{◌∙◌, rules}
use Rattle.bw_disk.proofs.MemoryDisks.{stands, none_of}
use Rattle.bw_disk.proofs.memory_volume.open.Goals as goal

pub returns-then-is_none : goal.returns-then-is_none
returns-then-is_none c = none_of _ (stands c.args.files.now c.args.path.now ∙ search rules)

pub returns : goal.returns
returns c = (stands c.args.files.now c.args.path.now ∙ search rules, search rules)
