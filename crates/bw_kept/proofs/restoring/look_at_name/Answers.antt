use Rattle.std.proofs.Common.{List, ℕ, Option, refl, sym, subst, string_bytes}
use Rattle.std.specs.Prelude.{IfOk}
use Rattle.bw_folder.specs.Folders.{take_path}
use Rattle.bw_kept.specs.RecoveredNames.{FindsName}
use Rattle.bw_folder.specs.JournalFolders.{noted_in_folder}
use Rattle.bw_kept.proofs.RestoredForms.{each_noted, found_at}
use Rattle.bw_kept.proofs.restoring.look_at_name.Goals as goal

pub returns-clause-found : goal.returns-clause-found
returns-clause-found g c = λ one.
    let journal = c.args.journal.now in
    let store = c.args.store.now in
    let name : List ℕ = c.args.name.now in
    let folder : List ℕ = string_bytes store.folder in
    let did = c.lend_disks.ensures.visited in
    subst (λ (o : Option (List ℕ)). IfOk c.lend_disks.new.visitor.result (FindsName c.args.limit name o
    (g.D.Disk.contents store.disk (take_path folder name))))
    (sym (c.lend_disks.ensures.noted.0 name))
    (found_at c.args.limit name folder folder (string_bytes journal.folder) (g.E.Disk.contents journal.disk)
    (g.D.Disk.contents store.disk) c.lend_disks.new.visitor.result refl one.folder
    (did.none one.notes) (did.some one.notes) (did.found one.takes one.notes) did.spares)

pub returns-clause-noted : goal.returns-clause-noted
returns-clause-noted g c = λ honest.
    let journal = c.args.journal.now in
    each_noted (string_bytes journal.folder) (string_bytes c.lend_disks.new.journal.folder)
    (noted_in_folder journal) (noted_in_folder c.lend_disks.new.journal) (g.E.Disk.contents journal.disk)
    (g.E.Disk.contents c.lend_disks.new.journal.disk) c.lend_disks.ensures.noted.0 c.lend_disks.ensures.noted.1
    c.lend_disks.ensures.journal.settings.2 (c.lend_disks.ensures.visited.notes_whole.contents honest)
