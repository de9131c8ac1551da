use Rattle.std.proofs.Common.{refl, sym, ◌∙◌, rules}
use Rattle.bw_disk.proofs.MemoryDisks.{content_before, stands, none_of}
use Rattle.bw_disk.proofs.memory_disk.MemoryDisk.content.Goals as goal

pub returns-in-Some : goal.returns-in-Some
returns-in-Some c =
    rw (content_before c.args.self.now.files.items c.args.path.now c.in-Some.place c.index.result.now c.index.result.now
    (record { is = search rules; was = search rules; same = refl })) (search rules)

pub returns-in-None : goal.returns-in-None
returns-in-None c = sym (none_of _ (stands c.args.self.now.files.items c.args.path.now ∙ search rules))
