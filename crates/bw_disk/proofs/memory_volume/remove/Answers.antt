use Rattle.std.proofs.Common.{not, rules}
use Rattle.std.proofs.lemmas.Fn.{filter_same}
use Rattle.bw_disk.specs.declared.memory_disk.StoredFile.{StoredFile}
use Rattle.bw_disk.specs.MemoryDisks.{stands_at}
use Rattle.bw_disk.proofs.memory_volume.remove.Goals as goal

pub returns : goal.returns
returns c =
    filter_same _ (λ (file : StoredFile). not (stands_at c.args.path.now file)) _
    (λ x b f r. search rules) c.args.files.now.items c.retain.new.self.items c.retain.ensures.filtered
