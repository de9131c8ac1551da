use Rattle.std.proofs.Common.{inl, inr, refl, ◌∙◌}
use Rattle.bw_kept.specs.KeptTurns.{DiskFails, DisksDiffer}
use Rattle.bw_kept.proofs.FoundBooks.{new_off}
use Rattle.bw_kept.proofs.finding.found_new.Goals as goal

pub returns-in-Free-clause-place : goal.returns-in-Free-clause-place
returns-in-Free-clause-place g c = λ new. inl (c.in-Free.ensures.place refl)

pub returns-in-Full-clause-place : goal.returns-in-Full-clause-place
returns-in-Full-clause-place g c = λ new. inr (c.in-Full.ensures.none refl)

pub returns-in-Refused-clause-found : goal.returns-in-Refused-clause-found
returns-in-Refused-clause-found g c = c.close_files.ensures.sessions c.args.name.now ∙ c.requires.fresh

pub returns-in-Refused-clause-books : goal.returns-in-Refused-clause-books
returns-in-Refused-clause-books g c =
    new_off _ _ (DiskFails g.D.Disk g.E.Disk) (DisksDiffer g.D.Disk g.E.Disk) c.args.name.now c.args.server.now
    c.close_files.new.server c.close_files.ensures.books c.requires.fresh
