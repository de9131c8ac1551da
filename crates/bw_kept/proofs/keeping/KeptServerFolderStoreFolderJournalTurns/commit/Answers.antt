use Rattle.std.proofs.Common.{◌∙◌, List, Option, Bool, rules, sym, ap}
use Rattle.bw_kept.specs.KeptCommits.{commit_after, has_pending_notes}
use Rattle.bw_kept.specs.KeptServers.{table_server}
use Rattle.bw_kept.proofs.TurnCommits.{commits_kept, turn_after}
use Rattle.bw_kept.proofs.keeping.KeptServerFolderStoreFolderJournalTurns.commit.Goals as goal

pub returns-in-Some-clause-commits : goal.returns-in-Some-clause-commits
returns-in-Some-clause-commits g c =
    let e = c.commit_answered.ensures in
    commits_kept g.D.Disk g.E.Disk c.args.self.now c.commit_answered.new.self e.only e.tried e.idle _
    (ap (λ (o : Option (List _)). commit_after o (has_pending_notes (table_server c.commit_answered.new.self)))
    (sym c.in-Some.is ∙ c.failed_sync.ensures))

pub returns-in-Some-clause-answered : goal.returns-in-Some-clause-answered
returns-in-Some-clause-answered g c = λ first frame replies t.
    let e = c.commit_answered.ensures in
    turn_after g.D.Disk g.E.Disk c.args.self.now c.commit_answered.new.self e.only e.tried e.idle (table_server first) frame
    replies t

pub returns-then-awaits_commit-clause-commits : goal.returns-then-awaits_commit-clause-commits
returns-then-awaits_commit-clause-commits g c =
    let e = c.commit_answered.ensures in
    commits_kept g.D.Disk g.E.Disk c.args.self.now c.commit_answered.new.self e.only e.tried e.idle _
    (search rules)

pub returns-then-awaits_commit-clause-answered : goal.returns-then-awaits_commit-clause-answered
returns-then-awaits_commit-clause-answered g c = λ first frame replies t.
    let e = c.commit_answered.ensures in
    turn_after g.D.Disk g.E.Disk c.args.self.now c.commit_answered.new.self e.only e.tried e.idle (table_server first) frame
    replies t

pub returns-else-awaits_commit-clause-commits : goal.returns-else-awaits_commit-clause-commits
returns-else-awaits_commit-clause-commits g c =
    let e = c.commit_answered.ensures in
    commits_kept g.D.Disk g.E.Disk c.args.self.now c.commit_answered.new.self e.only e.tried e.idle _
    (search rules)

pub returns-else-awaits_commit-clause-answered : goal.returns-else-awaits_commit-clause-answered
returns-else-awaits_commit-clause-answered g c = λ first frame replies t.
    let e = c.commit_answered.ensures in
    turn_after g.D.Disk g.E.Disk c.args.self.now c.commit_answered.new.self e.only e.tried e.idle (table_server first) frame
    replies t
