use Rattle.std.proofs.Common.{rules, ◌≡◌, List, ℕ, OnErr, string_bytes}
use Rattle.std.proofs.lemmas.Result.{on_err_weaker}
use Rattle.bw_disk.specs.MemoryDisks.{content_at}
use Rattle.bw_disk.proofs.Removals.{unwritten}
use Rattle.bw_disk.proofs.memory_volume.MemoryDiskVolume.append.Goals as goal

pub returns-clause-failed : goal.returns-clause-failed
returns-clause-failed c =
    let path : List ℕ = string_bytes c.args.file.now.path in
    let same : OnErr c.write-answer.result
    (content_at c.write-answer.new.files.items path ≡ content_at c.args.self.now.files.items path) =
    search rules in
    λ honest. on_err_weaker c.write-answer.result
    (λ e. unwritten (content_at c.args.self.now.files.items path)
    (content_at c.write-answer.new.files.items path) c.args.offset c.args.bytes.now e) same
