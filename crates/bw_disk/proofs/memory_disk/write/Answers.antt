use Rattle.std.proofs.Common.{refl, ap, ◌∙◌, rules}
use Rattle.bw_disk.proofs.MemoryDisks.{IsReplaced, none_of, stands, content_under, synced_of, content_before}
use Rattle.bw_disk.proofs.MemoryDisks.{content_after, others, left}
use Rattle.bw_disk.proofs.memory_disk.write.Goals as goal

replaced : (c : goal.After-map_err) → IsReplaced c.args.files.now.items c.args.path.now c.in-Some.place
    c.index_mut.result.now (record c.index_mut.result.now { content = c.overwrite.new.content })
replaced c = record { is = search rules; was = search rules; same = refl }

pub returns-clause-written : goal.returns-clause-written
returns-clause-written c =
    rw (content_before _ _ _ _ _ (replaced c), content_after _ _ _ _ _ (replaced c)) (search rules)

pub returns-clause-failed : goal.returns-clause-failed
returns-clause-failed c =
    rw (content_before _ _ _ _ _ (replaced c), content_after _ _ _ _ _ (replaced c)) (search rules)

pub returns-clause-others : goal.returns-clause-others
returns-clause-others c = λ other ne. ap content_under (others _ _ _ _ _ (replaced c) other ne)

pub returns-clause-synced : goal.returns-clause-synced
returns-clause-synced c = left _ _ _ _ _ (replaced c) synced_of refl

pub returns-in_default-clause-over : goal.returns-in_default-clause-over
returns-in_default-clause-over c =
    rw (none_of _ (stands c.args.files.now.items c.args.path.now ∙ search rules)) tt

pub returns-clause-over : goal.returns-clause-over
returns-clause-over c = rw (content_before _ _ _ _ _ (replaced c)) (search rules)
