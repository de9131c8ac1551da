use Rattle.std.proofs.Common.{refl, ◌∙◌}
use Rattle.bw_kept.specs.KeptTurns.{DiskFails, DisksDiffer}
use Rattle.bw_kept.proofs.FoundBooks.{closed_full, closed_off}
use Rattle.bw_kept.proofs.finding.put_in.Goals as goal

pub returns-in-Full-clause-found : goal.returns-in-Full-clause-found
returns-in-Full-clause-found g c = c.close_files.ensures.sessions c.args.name.now ∙ c.requires.fresh

pub returns-in-Full-clause-books : goal.returns-in-Full-clause-books
returns-in-Full-clause-books g c =
    closed_full _ _ (DiskFails g.D.Disk g.E.Disk) (DisksDiffer g.D.Disk g.E.Disk) c.args.take c.args.name.now c.args.server.now
    c.close_files.new.server c.close_files.ensures.books
    c.requires.fresh c.close_files.ensures.sessions c.close_files.ensures.notes
    (c.requires.none (c.in-Full.ensures.none refl)) (c.in-Full.ensures.full refl)

pub returns-in-Refused-clause-found : goal.returns-in-Refused-clause-found
returns-in-Refused-clause-found g c = c.close_files-in-Refused.ensures.sessions c.args.name.now ∙ c.requires.fresh

pub returns-in-Refused-clause-books : goal.returns-in-Refused-clause-books
returns-in-Refused-clause-books g c =
    closed_off _ _ (DiskFails g.D.Disk g.E.Disk) (DisksDiffer g.D.Disk g.E.Disk) c.args.take c.args.name.now c.args.server.now
    c.close_files-in-Refused.new.server
    c.close_files-in-Refused.ensures.books c.requires.fresh
