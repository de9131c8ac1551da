use Rattle.std.proofs.Common.{refl, ◌∙◌}
use Rattle.bw_kept.proofs.CommitForms.{counts_only, finds_since, finds_unkept}
use Rattle.bw_kept.proofs.FoundForms.{absent, counts_then, not_known}
use Rattle.bw_kept.proofs.finding.find.Goals as goal

pub find_outside-requires : goal.find_outside-requires
find_outside-requires g c = record {
  committed = c.in-Ok.ensures.commits.whole;
  fresh = c.commit_notes.ensures.only.sessions c.args.name.now
      ∙ absent _ _ c.is_known.ensures.kept c.if-is_known.false;
}

pub returns-in-Ok-clause-counts : goal.returns-in-Ok-clause-counts
returns-in-Ok-clause-counts g c =
    counts_then _ _ c.args.server.now c.commit_notes.new.server c.find_outside.new.server
    (counts_only _ _ c.args.server.now c.commit_notes.new.server c.commit_notes.ensures.only) c.find_outside.ensures.counts

pub returns-in-Ok-clause-inside : goal.returns-in-Ok-clause-inside
returns-in-Ok-clause-inside g c = not_known _ _ c.is_known.ensures.kept c.if-is_known.false

pub returns-in-Ok-clause-books : goal.returns-in-Ok-clause-books
returns-in-Ok-clause-books g c =
    finds_since g.D.Disk g.E.Disk c.args.name.now _ c.find_outside.result c.args.server.now c.commit_notes.new.server
    c.find_outside.new.server refl c.commit_notes.ensures.only c.in-Ok.ensures.commits c.find_outside.ensures.books

pub returns-in-Err-clause-counts : goal.returns-in-Err-clause-counts
returns-in-Err-clause-counts g c =
    counts_only _ _ c.args.server.now c.commit_notes.new.server c.commit_notes.ensures.only

pub returns-in-Err-clause-inside : goal.returns-in-Err-clause-inside
returns-in-Err-clause-inside g c = not_known _ _ c.is_known.ensures.kept c.if-is_known.false

pub returns-in-Err-clause-found : goal.returns-in-Err-clause-found
returns-in-Err-clause-found g c =
    c.commit_notes.ensures.only.sessions c.args.name.now
    ∙ absent _ _ c.is_known.ensures.kept c.if-is_known.false

pub returns-in-Err-clause-books : goal.returns-in-Err-clause-books
returns-in-Err-clause-books g c =
    finds_unkept g.D.Disk g.E.Disk c.args.name.now c.in-Err.fault c.delay_of_read.result c.args.server.now
    c.commit_notes.new.server c.delay_of_read.ensures c.commit_notes.ensures.only c.in-Err.ensures.commits
