use Rattle.std.proofs.Common.{ap, [], refl}
use Rattle.bw_disk.specs.MemoryDisks.{content_at}
use Rattle.bw_disk.specs.declared.memory_disk.MemoryDisk.{MemoryDisk}
use Rattle.bw_journal.specs.Stops.{cut_book}
use Rattle.bw_kept.proofs.LeftFolders.{kept_servers_leave_done}
use Rattle.bw_delivery.proofs.ServedWorlds.{stops_are_steps}
use Rattle.bw_commands.specs.RehearsedWorlds.{no_contents}
use Rattle.bw_session.proofs.OrderLaws.{waiting_in_order}
use Rattle.bw_delivery.proofs.AskForms.{running_in}
use Rattle.bw_delivery.proofs.MachineForms.{left_at}
use Rattle.bw_delivery.proofs.PlayForms.{stopped_already, stopped_now}
use Rattle.bw_delivery.proofs.machine.stop.Goals as goal

pub returns-in_ok-folder-in-Runs : goal.returns-in_ok-folder-in-Runs
returns-in_ok-folder-in-Runs c = λ limit w is.
    let r = running_in limit w [] _ _ c.in-Runs.is is in
    let t = c.in_ok-folder-in-Runs.ensures in
    let s = stops_are_steps _ _ (λ name old new. ⊥) (λ name s. ⊥) (kept_servers_leave_done _ _ (waiting_in_order _ _))
    no_contents w _ _ [] _ r.holds tt
    refl t.on_disk in
    stopped_now limit w _ _ _ s.later s.left c.in-Runs.is s.next
    (left_at limit _ (cut_book s.left) _ _ _ _ _ _ r.limited t.journal t.store
    (ap (λ (d : MemoryDisk). content_at d.files.items) t.notes)
    (ap (λ (d : MemoryDisk). content_at d.files.items) t.takes) s.stands)

pub returns-in-Stopped : goal.returns-in-Stopped
returns-in-Stopped c = λ limit w is. stopped_already limit w _ _ c.in-Stopped.is is
