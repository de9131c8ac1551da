use Rattle.std.proofs.Common.{rules, ◌≡◌, List, ℕ, OnErr, string_bytes, ap}
use Rattle.std.proofs.lemmas.Result.{on_err_weaker}
use Rattle.bw_disk.specs.MemoryDisks.{content_at}
use Rattle.bw_disk.proofs.Removals.{uncut}
use Rattle.bw_disk.proofs.memory_volume.MemoryDiskVolume.cut.Goals as goal

pub returns-clause-failed : goal.returns-clause-failed
returns-clause-failed c =
    let path : List ℕ = string_bytes c.args.file.now.path in
    let same : OnErr c.cut-answer.result (c.cut-answer.new.files.items ≡ c.args.self.now.files.items) =
    search rules in
    λ honest. on_err_weaker c.cut-answer.result
    (λ e. uncut (content_at c.args.self.now.files.items path)
    (content_at c.cut-answer.new.files.items path) c.args.len (ap (λ files. content_at files path) e)) same
