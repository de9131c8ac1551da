use Rattle.std.proofs.Common.{refl, rules}
use Rattle.bw_disk.proofs.MemoryDisks.{content_before}
use Rattle.bw_disk.proofs.memory_volume.len.Goals as goal

pub returns-in-Some : goal.returns-in-Some
returns-in-Some c =
    rw (content_before c.args.files.now c.args.path.now c.in-Some.place c.index-files-place.result
    c.index-files-place.result (record { is = search rules; was = search rules; same = refl })) (search rules)
