use Rattle.std.proofs.Common.{◌∙◌, List, ℕ, Option, Some, OnOk, refl, sym, ap, subst, string_bytes}
use Rattle.bw_disk.specs.ReadFaults.{is_disk_fault}
use Rattle.bw_recovery.specs.Changes.{IsCrowded}
use Rattle.bw_recovery.specs.CountedFaults.{CountsOneUnless}
use Rattle.bw_recovery.specs.Paths.{path_with}
use Rattle.bw_recovery.specs.StaysLeft.{StaysLeft}
use Rattle.bw_folder.specs.Folders.{take_path}
use Rattle.bw_folder.specs.Journals.{journal_path}
use Rattle.bw_folder.specs.JournalFolders.{noted_in_folder}
use Rattle.bw_kept.specs.RecoveredNames.{FindsName, RestoresName}
use Rattle.bw_kept.proofs.RestoredForms.{both_are, found_then, restored_at, refused_leaves, others_noted}
use Rattle.bw_kept.proofs.restoring.restore_in_folder.Goals as goal

pub returns-clause-restored : goal.returns-clause-restored
returns-clause-restored g c = λ one limit found.
    let journal = c.args.journal.now in
    let store = c.args.store.now in
    let name : List ℕ = c.args.name.now in
    let folder : List ℕ = string_bytes store.folder in
    let other : List ℕ = string_bytes journal.folder in
    let notes = g.E.Disk.contents journal.disk in
    let takes = g.D.Disk.contents store.disk in
    let later_notes = g.E.Disk.contents c.lend_disks.new.journal.disk in
    let later_takes = g.D.Disk.contents c.lend_disks.new.store.disk in
    let result = c.lend_disks.new.visitor.result in
    let did = c.lend_disks.ensures.visited in
    let noted = c.lend_disks.ensures.noted in
    let finds = subst (λ (o : Option (List ℕ)). FindsName limit name o (takes (take_path folder name)) (Some c.args.finding.now))
    (noted.0 name) found in
    both_are (λ (j k : Option (List ℕ)). OnOk result (RestoresName limit name (noted_in_folder journal name)
    (takes (take_path folder name)) j k))
    (noted.1 name ∙ ap (λ (f : List ℕ). later_notes (journal_path f name)) c.lend_disks.ensures.journal.settings.2)
    (ap (λ (f : List ℕ). later_takes (take_path f name)) c.lend_disks.ensures.store.folder)
    (subst (λ (o : Option (List ℕ)). OnOk result (RestoresName limit name o (takes (take_path folder name))
    (later_notes (journal_path other name)) (later_takes (take_path folder name)))) (sym (noted.0 name))
    (restored_at limit name folder folder other notes takes later_notes later_takes
    c.args.finding.now result refl one.folder finds
    (λ content at is spares sound. did.restored limit
    (record { takes_honest = one.takes; notes_honest = one.notes; journal = content; stands = at; found = is; spares = spares }) sound)))

pub returns-clause-left : goal.returns-clause-left
unfolding journal_path take_path path_with
returns-clause-left g c = λ one limit found.
    let journal = c.args.journal.now in
    let store = c.args.store.now in
    let name : List ℕ = c.args.name.now in
    let folder : List ℕ = string_bytes store.folder in
    let other : List ℕ = string_bytes journal.folder in
    let notes = g.E.Disk.contents journal.disk in
    let takes = g.D.Disk.contents store.disk in
    let later_notes = g.E.Disk.contents c.lend_disks.new.journal.disk in
    let later_takes = g.D.Disk.contents c.lend_disks.new.store.disk in
    let did = c.lend_disks.ensures.visited in
    let noted = c.lend_disks.ensures.noted in
    let finds = subst (λ (o : Option (List ℕ)). FindsName limit name o (takes (take_path folder name)) (Some c.args.finding.now))
    (noted.0 name) found in
    both_are (λ (j k : Option (List ℕ)). StaysLeft limit name (noted_in_folder journal name)
    (takes (take_path folder name)) j k)
    (noted.1 name ∙ ap (λ (f : List ℕ). later_notes (journal_path f name)) c.lend_disks.ensures.journal.settings.2)
    (ap (λ (f : List ℕ). later_takes (take_path f name)) c.lend_disks.ensures.store.folder)
    (subst (λ (o : Option (List ℕ)). StaysLeft limit name o (takes (take_path folder name))
    (later_notes (journal_path other name)) (later_takes (take_path folder name))) (sym (noted.0 name))
    (found_then limit name folder folder other notes takes c.args.finding.now
    (λ (p f : List ℕ) (o : Option (List ℕ)). StaysLeft limit name o (takes (take_path f name))
    (later_notes (journal_path p name)) (later_takes (take_path f name)))
    refl one.folder finds
    (λ content at is spares. did.left limit
    (record { takes_honest = one.takes; notes_honest = one.notes; journal = content; stands = at; found = is; spares = spares }))))

pub returns-clause-failures : goal.returns-clause-failures
returns-clause-failures g c = λ one limit found.
    let journal = c.args.journal.now in
    let store = c.args.store.now in
    let name : List ℕ = c.args.name.now in
    let folder : List ℕ = string_bytes store.folder in
    let notes = g.E.Disk.contents journal.disk in
    let takes = g.D.Disk.contents store.disk in
    let finds = subst (λ (o : Option (List ℕ)). FindsName limit name o (takes (take_path folder name)) (Some c.args.finding.now))
    (c.lend_disks.ensures.noted.0 name) found in
    found_then limit name folder folder (string_bytes journal.folder) notes takes c.args.finding.now
    (λ (p f : List ℕ) (o : Option (List ℕ)). CountsOneUnless (IsCrowded f name takes)
    (g.D.Disk.failures store.disk) (g.D.Disk.failures c.lend_disks.new.store.disk)
    (g.E.Disk.failures journal.disk) (g.E.Disk.failures c.lend_disks.new.journal.disk)
    (is_disk_fault c.lend_disks.new.visitor.result))
    refl one.folder finds
    (λ content at is spares. c.lend_disks.ensures.visited.failures limit
    (record { takes_honest = one.takes; notes_honest = one.notes; journal = content; stands = at; found = is; spares = spares }))

pub returns-clause-noted : goal.returns-clause-noted
returns-clause-noted g c = λ one.
    let journal = c.args.journal.now in
    let name : List ℕ = c.args.name.now in
    let noted = c.lend_disks.ensures.noted in
    others_noted name (string_bytes c.args.store.now.folder) (string_bytes journal.folder)
    (string_bytes c.lend_disks.new.journal.folder) (noted_in_folder journal) (noted_in_folder c.lend_disks.new.journal)
    (g.E.Disk.contents journal.disk) (g.E.Disk.contents c.lend_disks.new.journal.disk) noted.0 noted.1 (sym one.folder)
    c.lend_disks.ensures.journal.settings.2 (c.lend_disks.ensures.visited.others one.takes one.notes).1

pub returns-clause-refused : goal.returns-clause-refused
returns-clause-refused g c = λ is.
    (c.lend_disks.ensures.visited.kept (refused_leaves c.args.finding.now is), c.lend_disks.ensures.visited.refused is)
