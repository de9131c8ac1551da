use Rattle.std.proofs.Common.{ap, [], refl, subst}
use Rattle.bw_model.specs.Book.{Book}
use Rattle.bw_kept.specs.LeftFolders.{LeavesAtLeast}
use Rattle.bw_disk.specs.MemoryDisks.{content_at}
use Rattle.bw_disk.specs.declared.memory_disk.MemoryDisk.{MemoryDisk}
use Rattle.bw_journal.specs.Stops.{cut_book}
use Rattle.bw_kept.proofs.LeftFolders.{kept_servers_leave_done}
use Rattle.bw_delivery.proofs.ServedWorlds.{stops_are_steps}
use Rattle.bw_commands.specs.RehearsedWorlds.{no_contents}
use Rattle.bw_session.proofs.OrderLaws.{waiting_in_order}
use Rattle.bw_delivery.proofs.MachineForms.{left_at}
use Rattle.bw_delivery.proofs.PlayForms.{each_started}
use Rattle.bw_delivery.proofs.machine.start_anew.Goals as goal

pub returns : goal.returns
returns c = λ w is.
    let t = c.in_ok-folder.ensures in
    let s = stops_are_steps _ _ (λ name old new. ⊥) (λ name s. ⊥) (kept_servers_leave_done _ _ (waiting_in_order _ _))
    no_contents w _ _ [] _ is.holds tt
    refl t.on_disk in
    each_started c.args.limit w.book s.left
    (subst (λ (b : Book). LeavesAtLeast w.book b s.left) s.next.1 s.next.2) c.start_over.result
    (c.start_over.ensures s.left (left_at c.args.limit _ (cut_book s.left) _ _ _ _ _ _ is.limited t.journal t.store
    (ap (λ (d : MemoryDisk). content_at d.files.items) t.notes)
    (ap (λ (d : MemoryDisk). content_at d.files.items) t.takes) s.stands))
