use Rattle.std.proofs.Common.{List, Option, subst, sym, ℕ}
use Rattle.bw_send_file.specs.NotedCounts.{NotesCount}
use Rattle.bw_send_file.proofs.KeeperSteps.{keeps_then}
use Rattle.bw_send_file.proofs.keeper.StateKeeperObserver.settled.Goals as goal

pub returns : goal.returns
returns g c = λ s is. record {
  count = subst (λ (w : Option (List ℕ)). NotesCount s (g.L.StateLog.written c.args.self.now.log) w)
      (sym c.sync_if_due.ensures.kept) (c.note_if_due.ensures.count s is);
  fault = keeps_then g.L.StateLog c.args.self.now _ _
      (record { counts = c.note_if_due.ensures.fault.counts; stops = c.note_if_due.ensures.fault.stops })
      c.sync_if_due.ensures.fault;
}
