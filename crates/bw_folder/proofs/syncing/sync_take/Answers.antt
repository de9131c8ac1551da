use Rattle.std.proofs.Common.{◌∙◌, IsTrue, sym, subst, List, ℕ, Option}
use Rattle.std.specs.Prelude.{IsSome}
use Rattle.bw_folder.proofs.SyncLaws.{sync_stays}
use Rattle.bw_folder.proofs.syncing.sync_take.Goals as goal

pub returns-clause-stays : goal.returns-clause-stays
returns-clause-stays g c = λ honest n same was.
    let still = subst IsTrue (sym c.open.ensures.honest) honest in
    sync_stays c.sync_file.result (g.D.Disk.path_of c.in-Some.file) (g.D.Disk.contents c.open.new.self)
    (g.D.Disk.synced c.open.new.self) (g.D.Disk.contents c.sync_file.new.disk) (g.D.Disk.synced c.sync_file.new.disk)
    (c.sync_file.ensures.synced still) n (c.sync_file.ensures.contents still n)
    (λ some. c.open.ensures.synced honest n
    ∙ was (subst (λ (o : Option (List ℕ)). IsSome o) (c.open.ensures.contents honest n) some)
    ∙ sym (c.open.ensures.contents honest n))
