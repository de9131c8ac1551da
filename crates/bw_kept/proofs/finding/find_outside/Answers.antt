use Rattle.std.proofs.Common.{◌∙◌}
use Rattle.bw_kept.specs.KeptTurns.{DiskFails, DisksDiffer}
use Rattle.bw_kept.proofs.FoundBooks.{finds_kept, finds_new, finds_not, finds_out}
use Rattle.bw_kept.proofs.FoundForms.{counts_then, none_pending, place_then}
use Rattle.bw_kept.proofs.finding.find_outside.Goals as goal

pub recover_name-requires : goal.recover_name-requires
recover_name-requires g c = record {
  committed = none_pending c.args.server.now c.drop_one-leaving.new.server c.drop_one-leaving.ensures.forgets.pending
      c.requires.committed;
}

pub returns-in-Ok-New-clause-counts : goal.returns-in-Ok-New-clause-counts
returns-in-Ok-New-clause-counts g c =
    counts_then _ _ _ _ _ c.drop_one-leaving.ensures.forgets.kept.counts
    (counts_then _ _ _ _ _ c.recover_name.ensures.counts c.found_new.ensures.counts)

pub found_new-requires : goal.found_new-requires
found_new-requires g c = record {
  fresh = c.recover_name.ensures.sessions c.args.name.now ∙ c.drop_one-leaving.ensures.forgets.outside c.args.name.now
      c.requires.fresh;
}

pub returns-in-Ok-New-clause-books : goal.returns-in-Ok-New-clause-books
returns-in-Ok-New-clause-books g c =
    finds_new _ _ (DiskFails g.D.Disk g.E.Disk) (DisksDiffer g.D.Disk g.E.Disk) c.args.name.now c.args.server.now
    c.drop_one-leaving.new.server c.recover_name.new.server c.found_new.new.server c.in-Ok-New.field-0
    c.found_new.result c.in-Ok-New.field-0-is c.drop_one-leaving.ensures.forgets.kept
    (c.drop_one-leaving.ensures.forgets.outside c.args.name.now
    c.requires.fresh)
    c.recover_name.ensures.counts c.in-Ok-New.ensures.recovered c.found_new.ensures.committed
    c.found_new.ensures.books

pub returns-in-Ok-New-clause-place : goal.returns-in-Ok-New-clause-place
returns-in-Ok-New-clause-place g c = λ new.
    place_then _ _ c.drop_one-leaving.new.server c.found_new.new.server c.drop_one-leaving.result
    c.drop_one-leaving.ensures.none
    (λ n. c.found_new.ensures.sessions n ∙ c.recover_name.ensures.sessions n) (c.found_new.ensures.place new)

pub returns-in-Ok-LeftOut-clause-counts : goal.returns-in-Ok-LeftOut-clause-counts
returns-in-Ok-LeftOut-clause-counts g c =
    counts_then _ _ _ _ _ c.drop_one-leaving.ensures.forgets.kept.counts c.recover_name.ensures.counts

pub returns-in-Ok-LeftOut-clause-found : goal.returns-in-Ok-LeftOut-clause-found
returns-in-Ok-LeftOut-clause-found g c =
    c.recover_name.ensures.sessions c.args.name.now ∙ c.drop_one-leaving.ensures.forgets.outside c.args.name.now
    c.requires.fresh

pub returns-in-Ok-LeftOut-clause-books : goal.returns-in-Ok-LeftOut-clause-books
returns-in-Ok-LeftOut-clause-books g c =
    finds_out _ _ (DiskFails g.D.Disk g.E.Disk) (DisksDiffer g.D.Disk g.E.Disk) c.args.name.now c.args.server.now
    c.drop_one-leaving.new.server c.recover_name.new.server c.in-Ok-LeftOut.field-0 _ c.in-Ok-LeftOut.field-0-is
    c.drop_one-leaving.ensures.forgets.kept
    (c.drop_one-leaving.ensures.forgets.outside c.args.name.now
    c.requires.fresh) c.in-Ok-LeftOut.ensures.recovered

pub returns-in-Ok-Kept-clause-counts : goal.returns-in-Ok-Kept-clause-counts
returns-in-Ok-Kept-clause-counts g c =
    counts_then _ _ _ _ _ c.drop_one-leaving.ensures.forgets.kept.counts
    (counts_then _ _ _ _ _ c.recover_name.ensures.counts c.put_in.ensures.counts)

pub returns-in-Ok-Kept-clause-books : goal.returns-in-Ok-Kept-clause-books
returns-in-Ok-Kept-clause-books g c =
    finds_kept _ _ (DiskFails g.D.Disk g.E.Disk) (DisksDiffer g.D.Disk g.E.Disk) c.args.name.now c.args.server.now
    c.drop_one-leaving.new.server c.recover_name.new.server c.put_in.new.server c.in-Ok-Kept.field-0 _ c.put_in.result
    c.in-Ok-Kept.field-0-is c.drop_one-leaving.ensures.forgets.kept
    (c.drop_one-leaving.ensures.forgets.outside c.args.name.now
    c.requires.fresh)
    c.recover_name.ensures.counts c.in-Ok-Kept.ensures.recovered c.put_in.ensures.committed
    c.put_in.ensures.books

pub returns-in-Err-clause-counts : goal.returns-in-Err-clause-counts
returns-in-Err-clause-counts g c =
    counts_then _ _ _ _ _ c.drop_one-leaving.ensures.forgets.kept.counts c.recover_name.ensures.counts

pub returns-in-Err-clause-found : goal.returns-in-Err-clause-found
returns-in-Err-clause-found g c =
    c.recover_name.ensures.sessions c.args.name.now ∙ c.drop_one-leaving.ensures.forgets.outside c.args.name.now
    c.requires.fresh

pub returns-in-Err-clause-books : goal.returns-in-Err-clause-books
returns-in-Err-clause-books g c =
    finds_not g.D.Disk g.E.Disk _ _ c.args.name.now c.args.server.now c.drop_one-leaving.new.server
    c.recover_name.new.server _ c.drop_one-leaving.ensures.forgets.kept c.drop_one-leaving.ensures.forgets.disks
    (c.drop_one-leaving.ensures.forgets.outside c.args.name.now
    c.requires.fresh) c.in-Err.ensures.recovered
