use Rattle.std.proofs.Common.{rules, ◌∙◌, sym}
use Rattle.bw_kept.proofs.FoundForms.{disks_forgotten, forgets_none, forgets_table, forgot_not, forgot_now}
use Rattle.bw_kept.proofs.FoundForms.{keeps_forgotten, outside_forgotten, outside_same, outside_then}
use Rattle.bw_session.specs.SeenServers.{server_journal}
use Rattle.bw_kept.proofs.DiskForms.{committed_name}
use Rattle.bw_kept.proofs.FoundForms.{pending_same, pending_then}
use Rattle.bw_kept.proofs.KeptForms.{never}
use Rattle.bw_kept.proofs.room.drop_name.Goals as goal

pub returns-in-Ok-true-clause-forgets : goal.returns-in-Ok-true-clause-forgets
returns-in-Ok-true-clause-forgets g c =
    let name = c.args.name.now in
    let old = c.args.server.now in
    let mid = c.forget.new.self in
    let new = c.close_files.new.server in
    let closed = c.close_files.ensures in
    let forgot = forgot_now _ _ c.in-Ok-true.field-0 name old mid (search rules) c.in-Ok-true.ensures.forgotten in
    record {
      kept = keeps_forgotten _ _ name old mid new forgot
          (committed_name g.E.Disk (server_journal old) name (c.requires.committed name)) closed.counts closed.committed
          closed.books;
      disks = disks_forgotten old mid new c.forget.ensures.store c.forget.ensures.journal closed.disks;
      pending = pending_then old mid new (pending_same old mid c.forget.ensures.journal) closed.pending;
      outside = outside_then _ _ old mid new (outside_forgotten _ _ name old mid forgot)
          (outside_same _ _ mid new closed.sessions);
      same = λ stays. never (sym stays);
    }

pub returns-in-Ok-true-clause-gone : goal.returns-in-Ok-true-clause-gone
returns-in-Ok-true-clause-gone g c = λ left.
    c.close_files.ensures.sessions c.args.name.now
    ∙ (forgot_now _ _ c.in-Ok-true.field-0 c.args.name.now c.args.server.now c.forget.new.self (search rules)
    c.in-Ok-true.ensures.forgotten).gone

pub returns-in-Ok-false-clause-forgets : goal.returns-in-Ok-false-clause-forgets
returns-in-Ok-false-clause-forgets g c =
    forgets_none _ c.args.server.now c.forget.new.self
    (forgot_not _ _ c.in-Ok-false.field-0 c.args.name.now c.args.server.now c.forget.new.self (search rules)
    c.in-Ok-false.ensures.forgotten)

pub returns-in-Err-clause-forgets : goal.returns-in-Err-clause-forgets
returns-in-Err-clause-forgets g c =
    forgets_table _ c.args.server.now c.forget.new.self c.in-Err.ensures.failed
