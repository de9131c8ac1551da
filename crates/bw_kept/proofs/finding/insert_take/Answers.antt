use Rattle.std.proofs.Common.{◌∙◌, ap, subst}
use Rattle.bw_session.specs.SeenServers.{session_kept}
use Rattle.bw_kept.specs.FoundNames.{PutsInBooks}
use Rattle.bw_kept.specs.KeptTurns.{DiskFails, DisksDiffer, KeepsCounts}
use Rattle.bw_kept.specs.declared.delay.Delay.TheVariants as delay
use Rattle.bw_kept.specs.declared.finding.Found.TheVariants as found
use Rattle.bw_kept.proofs.FoundBooks.{closed_off, insert_in, inserted_here}
use Rattle.bw_kept.proofs.FoundForms.{counts_same}
use Rattle.bw_kept.proofs.finding.insert_take.Goals as goal

pub returns-in-Ok-clause-counts : goal.returns-in-Ok-clause-counts
returns-in-Ok-clause-counts g c =
    counts_same _ _ c.args.server.now c.insert.new.self c.insert.ensures.store c.insert.ensures.journal c.insert.ensures.limit

pub returns-in-Ok-clause-found : goal.returns-in-Ok-clause-found
returns-in-Ok-clause-found g c =
    inserted_here _ _ (DiskFails g.D.Disk g.E.Disk) (DisksDiffer g.D.Disk g.E.Disk)
    c.args.take c.args.name.now c.args.server.now c.insert.new.self
    c.requires.named c.in-Ok.ensures.inserted

pub returns-in-Ok-clause-books : goal.returns-in-Ok-clause-books
returns-in-Ok-clause-books g c =
    insert_in _ _ (DiskFails g.D.Disk g.E.Disk) (DisksDiffer g.D.Disk g.E.Disk) c.args.take c.args.name.now c.args.server.now
    c.insert.new.self c.requires.named
    c.in-Ok.ensures.inserted

pub returns-in-Err-clause-counts : goal.returns-in-Err-clause-counts
returns-in-Err-clause-counts g c =
    subst (λ (s : _). KeepsCounts _ _ s c.close_files.new.server) c.in-Err.ensures.failed c.close_files.ensures.counts

pub returns-in-Err-clause-found : goal.returns-in-Err-clause-found
returns-in-Err-clause-found g c =
    c.close_files.ensures.sessions c.args.name.now
    ∙ ap (λ (s : _). session_kept s c.args.name.now) c.in-Err.ensures.failed ∙ c.requires.fresh

pub returns-in-Err-clause-books : goal.returns-in-Err-clause-books
returns-in-Err-clause-books g c =
    subst (λ (s : _). PutsInBooks _ _ (DiskFails g.D.Disk g.E.Disk) (DisksDiffer g.D.Disk g.E.Disk)
    s c.close_files.new.server c.args.name.now c.args.take
    (found.PutOff delay.NoMemory)) c.in-Err.ensures.failed
    (closed_off _ _ (DiskFails g.D.Disk g.E.Disk) (DisksDiffer g.D.Disk g.E.Disk) c.args.take c.args.name.now c.insert.new.self
    c.close_files.new.server c.close_files.ensures.books
    (ap (λ (s : _). session_kept s c.args.name.now) c.in-Err.ensures.failed ∙ c.requires.fresh))
