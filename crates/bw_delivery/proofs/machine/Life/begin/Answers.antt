use Rattle.std.proofs.Common.{refl, rules, arith, sym, ap, subst, ◌∙◌, ◌<◌}
use Rattle.std.specs.Prelude.{◌^◌}
use Rattle.bw_disk.specs.MemoryVolumes.{disk_content}
use Rattle.bw_journal.specs.Stops.{cut_book}
use Rattle.bw_session.proofs.OrderLaws.{waiting_in_order}
use Rattle.bw_kept.proofs.DiskForms.{empty_committed}
use Rattle.bw_kept.proofs.LeftFolders.{committed_books_are_covered, empty_servers_hold}
use Rattle.bw_delivery.specs.ServedWorlds.{ServesBook}
use Rattle.bw_commands.specs.RehearsedWorlds.{no_contents}
use Rattle.bw_delivery.proofs.MachineForms.{begun, lies_by, lies_noted}
use Rattle.bw_delivery.proofs.machine.Life.begin.Goals as goal

pub returns-in-Ok-new-clause-running : goal.returns-in-Ok-new-clause-running
returns-in-Ok-new-clause-running c = λ book lies.
    let s = c.in-Ok.ensures in
    let j = c.in_folder-journal.ensures in
    let t = c.in_folder-store.ensures in
    let value = c.bytes-range.ensures.value in
    let range = c.bytes-range.ensures.range.no_larger in
    let small : c.args.limit < 2 ^ 32 = omega (arith, value, range) in
    let there = lies_by c.args.limit (cut_book book) _ _ (disk_content c.args.folder.notes) _
    (disk_content c.args.folder.takes) _ (j.folder ∙ c.in_ok-of_takes.ensures.two) (t.folder ∙ c.in_ok-of_takes.ensures.one)
    (ap (λ d. disk_content d.inner) j.disk ∙ ap disk_content c.new-notes.ensures.inner)
    (ap (λ d. disk_content d.inner) t.disk ∙ ap disk_content c.new-takes.ensures.inner) lies in
    record {
      limited = ap (λ z. z.limit) c.in-Ok-new.ensures.server ∙ s.limit;
      holds = subst (λ z. ServesBook _ _ no_contents z (cut_book book)) (sym c.in-Ok-new.ensures.server)
          (begun _ _ (empty_servers_hold _ _) (committed_books_are_covered _ _ (waiting_in_order _ _)) no_contents c.args.limit
          (cut_book book) c.in_folder-store.result c.in_folder-journal.result c.in-Ok.server s.store s.journal s.limit s.book small
          (j.folder ∙ c.in_ok-of_takes.ensures.two ∙ sym c.in_ok-of_takes.ensures.one ∙ sym t.folder) (λ name. j.limit)
          refl refl (empty_committed _ c.in_folder-journal.result j.pending)
          (lies_noted c.in_folder-journal.result c.args.limit (cut_book book) _ j.pending there));
      takes_live = search rules;
      notes_live = search rules;
    }

pub returns-in-Ok-new-clause-lives : goal.returns-in-Ok-new-clause-lives
returns-in-Ok-new-clause-lives c = record {
  takes = search rules;
  takes_reached = search rules;
  takes_calls = search rules;
  notes = search rules;
  notes_reached = search rules;
  notes_calls = search rules;
}
