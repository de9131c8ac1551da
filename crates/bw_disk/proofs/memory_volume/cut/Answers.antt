use Rattle.std.proofs.Common.{refl, ap, rules}
use Rattle.bw_disk.proofs.MemoryDisks.{IsReplaced, content_under, synced_of, content_before, content_after, others, left}
use Rattle.bw_disk.proofs.memory_volume.cut.Goals.{After-files-1}
use Rattle.bw_disk.proofs.memory_volume.cut.Goals as goal

replaced : (c : After-files-1) → IsReplaced c.args.files.now.items c.args.path.now c.in-Some.place c.index_mut.result.now
    (record c.index_mut.result.now { content = c.shorten.new.content })
replaced c = record { is = search rules; was = search rules; same = refl }

pub returns-clause-cut : goal.returns-clause-cut
returns-clause-cut c =
    rw (content_before _ _ _ _ _ (replaced c), content_after _ _ _ _ _ (replaced c)) (search rules)

pub returns-clause-others : goal.returns-clause-others
returns-clause-others c = λ other ne. ap content_under (others _ _ _ _ _ (replaced c) other ne)

pub returns-clause-synced : goal.returns-clause-synced
returns-clause-synced c = left _ _ _ _ _ (replaced c) synced_of refl
