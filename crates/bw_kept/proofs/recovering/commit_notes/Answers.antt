use Rattle.bw_kept.proofs.CommitForms.{commits_only}
use Rattle.bw_kept.proofs.recovering.commit_notes.Goals as goal

pub returns-clause-only : goal.returns-clause-only
returns-clause-only g c =
    commits_only g.D.Disk g.E.Disk c.lend_stores.new.visitor.result c.args.server.now c.lend_stores.new.self
    c.lend_stores.ensures.visited c.lend_stores.ensures.sessions c.lend_stores.ensures.names c.lend_stores.ensures.limit
