use Rattle.std.proofs.Common.{rules, Ok, Err, Bool, ◌∙◌, List, ℕ, refl, ap}
use Rattle.bw_folder.specs.TakeFolders.{takes_disk}
use Rattle.bw_folder.specs.JournalFolders.{journals_disk, noted_in_folder}
use Rattle.bw_folder.specs.Journals.{existence_of}
use Rattle.bw_kept.specs.Recoveries.{opened_story, HasTooManyIn}
use Rattle.bw_kept.proofs.SeenAlike.{same_disks, same_folder, story_here, recovers_here, counts_here}
use Rattle.bw_kept.proofs.RecoveryForms.{numbers_then}
use Rattle.bw_kept.proofs.SeenRecoveries.{untouched_beside}
use Rattle.bw_kept.proofs.SeenAlike.{counts_there, kept_here, kept_there, many_here}
use Rattle.bw_kept.proofs.OpenLists.{opens_closed, closed_again, closed_first, closed_open, none_known, open_then, released}
use Rattle.bw_kept.proofs.recovery.recover.Goals as goal

pub returns-in-Ok-clause-recovered : goal.returns-in-Ok-clause-recovered
returns-in-Ok-clause-recovered g c = λ one.
    let store = c.args.store.now in
    let journal = c.args.journal.now in
    let shut = c.release.new.self in
    let shut_journal = c.release-2.new.self in
    let ended = c.recover_synced.new.store in
    let ended_journal = c.recover_synced.new.journal in
    let limit = c.args.limit in
    let name = c.args.name.now in
    let seen = same_disks store journal shut shut_journal c.release.ensures.disk c.release.ensures.folder
    c.release-2.ensures.disk c.release-2.ensures.settings.2 c.release-2.ensures.noted in
    let one' = same_folder store journal shut shut_journal seen one in
    recovers_here store journal shut shut_journal seen ended ended_journal limit name c.in-Ok.recovered
    (c.in-Ok.ensures.recovered one').recovered

pub returns-in-Ok-clause-opened : goal.returns-in-Ok-clause-opened
returns-in-Ok-clause-opened g c = λ one quiet.
    let store = c.args.store.now in
    let journal = c.args.journal.now in
    let shut = c.release.new.self in
    let shut_journal = c.release-2.new.self in
    let ended = c.recover_synced.new.store in
    let ended_journal = c.recover_synced.new.journal in
    let limit = c.args.limit in
    let name = c.args.name.now in
    let seen = same_disks store journal shut shut_journal c.release.ensures.disk c.release.ensures.folder
    c.release-2.ensures.disk c.release-2.ensures.settings.2 c.release-2.ensures.noted in
    let one' = same_folder store journal shut shut_journal seen one in
    opens_closed name (opened_story limit name (noted_in_folder journal name) c.in-Ok.recovered)
    (opened_story limit name (noted_in_folder shut_journal name) c.in-Ok.recovered) store journal shut shut_journal
    ended ended_journal (story_here store journal shut shut_journal seen limit name c.in-Ok.recovered)
    c.release.ensures.opened (released _ _ _ _ c.release-2.ensures.known (quiet name))
    (c.in-Ok.ensures.recovered one').opened

pub returns-in-Ok-clause-failures : goal.returns-in-Ok-clause-failures
returns-in-Ok-clause-failures g c = λ one quiet.
    let store = c.args.store.now in
    let journal = c.args.journal.now in
    let shut = c.release.new.self in
    let shut_journal = c.release-2.new.self in
    let ended = c.recover_synced.new.store in
    let ended_journal = c.recover_synced.new.journal in
    let name = c.args.name.now in
    let seen = same_disks store journal shut shut_journal c.release.ensures.disk c.release.ensures.folder
    c.release-2.ensures.disk c.release-2.ensures.settings.2 c.release-2.ensures.noted in
    let one' = same_folder store journal shut shut_journal seen one in
    counts_here store journal shut shut_journal seen ended ended_journal name _
    (ap g.D.Disk.failures c.release.ensures.disk) (ap g.E.Disk.failures c.release-2.ensures.disk)
    ((c.in-Ok.ensures.recovered one').failures
    (ap (λ (known : List (List ℕ × Bool)). existence_of known name)
    (released _ _ _ _ c.release-2.ensures.known (quiet name)) ∙ none_known name _))

pub returns-in-Err-clause-closed : goal.returns-in-Err-clause-closed
returns-in-Err-clause-closed g c = λ quiet.
    let store = c.args.store.now in
    let journal = c.args.journal.now in
    let shut = c.release.new.self in
    let shut_journal = c.release-2.new.self in
    let ended = c.recover_synced.new.store in
    let ended_journal = c.recover_synced.new.journal in
    let name = c.args.name.now in
    let last = c.release-in-Err.new.self in
    let last_journal = c.release-in-Err-2.new.self in
    closed_again name store journal shut shut_journal ended ended_journal last last_journal c.release.ensures.opened
    (released _ _ _ _ c.release-2.ensures.known (quiet name)) c.recover_synced.ensures.alone.apart
    c.release-in-Err.ensures.opened
    (released _ _ _ _ c.release-in-Err-2.ensures.known
    (c.recover_synced.ensures.alone.settings.pending name ∙ c.release-2.ensures.pending name ∙ quiet name))

pub returns-in-Err-clause-failures : goal.returns-in-Err-clause-failures
returns-in-Err-clause-failures g c = λ one quiet.
    let store = c.args.store.now in
    let journal = c.args.journal.now in
    let shut = c.release.new.self in
    let shut_journal = c.release-2.new.self in
    let ended = c.recover_synced.new.store in
    let ended_journal = c.recover_synced.new.journal in
    let name = c.args.name.now in
    let last = c.release-in-Err.new.self in
    let last_journal = c.release-in-Err-2.new.self in
    let seen = same_disks store journal shut shut_journal c.release.ensures.disk c.release.ensures.folder
    c.release-2.ensures.disk c.release-2.ensures.settings.2 c.release-2.ensures.noted in
    let one' = same_folder store journal shut shut_journal seen one in
    counts_there ended ended_journal last last_journal store journal name _
    (ap g.D.Disk.failures c.release-in-Err.ensures.disk) (ap g.E.Disk.failures c.release-in-Err-2.ensures.disk)
    (counts_here store journal shut shut_journal seen ended ended_journal name _
    (ap g.D.Disk.failures c.release.ensures.disk) (ap g.E.Disk.failures c.release-2.ensures.disk)
    ((c.in-Err.ensures.recovered one').failures
    (ap (λ (known : List (List ℕ × Bool)). existence_of known name)
    (released _ _ _ _ c.release-2.ensures.known (quiet name)) ∙ none_known name _)))

pub returns-in-Err-clause-many : goal.returns-in-Err-clause-many
returns-in-Err-clause-many g c = λ one.
    let store = c.args.store.now in
    let journal = c.args.journal.now in
    let shut = c.release.new.self in
    let shut_journal = c.release-2.new.self in
    let limit = c.args.limit in
    let name = c.args.name.now in
    let seen = same_disks store journal shut shut_journal c.release.ensures.disk c.release.ensures.folder
    c.release-2.ensures.disk c.release-2.ensures.settings.2 c.release-2.ensures.noted in
    let one' = same_folder store journal shut shut_journal seen one in
    numbers_then (HasTooManyIn limit name shut shut_journal) (HasTooManyIn limit name store journal)
    (Err c.in-Err.fault) (many_here store journal shut shut_journal seen limit name)
    (c.in-Err.ensures.recovered one').many

pub returns-in-Ok-clause-kept : goal.returns-in-Ok-clause-kept
returns-in-Ok-clause-kept g c = λ one.
    let store = c.args.store.now in
    let journal = c.args.journal.now in
    let shut = c.release.new.self in
    let shut_journal = c.release-2.new.self in
    let ended = c.recover_synced.new.store in
    let ended_journal = c.recover_synced.new.journal in
    let limit = c.args.limit in
    let name = c.args.name.now in
    let seen = same_disks store journal shut shut_journal c.release.ensures.disk c.release.ensures.folder
    c.release-2.ensures.disk c.release-2.ensures.settings.2 c.release-2.ensures.noted in
    let one' = same_folder store journal shut shut_journal seen one in
    kept_here store journal shut shut_journal seen ended ended_journal limit name
    (c.recover_synced.ensures.recovered one').kept

pub returns-in-Err-clause-kept : goal.returns-in-Err-clause-kept
returns-in-Err-clause-kept g c = λ one.
    let store = c.args.store.now in
    let journal = c.args.journal.now in
    let shut = c.release.new.self in
    let shut_journal = c.release-2.new.self in
    let ended = c.recover_synced.new.store in
    let ended_journal = c.recover_synced.new.journal in
    let limit = c.args.limit in
    let name = c.args.name.now in
    let last = c.release-in-Err.new.self in
    let last_journal = c.release-in-Err-2.new.self in
    let seen = same_disks store journal shut shut_journal c.release.ensures.disk c.release.ensures.folder
    c.release-2.ensures.disk c.release-2.ensures.settings.2 c.release-2.ensures.noted in
    let one' = same_folder store journal shut shut_journal seen one in
    let later = same_disks ended ended_journal last last_journal c.release-in-Err.ensures.disk
    c.release-in-Err.ensures.folder c.release-in-Err-2.ensures.disk c.release-in-Err-2.ensures.settings.2
    c.release-in-Err-2.ensures.noted in
    kept_there ended ended_journal last last_journal later store journal limit name
    (kept_here store journal shut shut_journal seen ended ended_journal limit name
    (c.recover_synced.ensures.recovered one').kept)

pub returns-in-Ok-clause-alone : goal.returns-in-Ok-clause-alone
returns-in-Ok-clause-alone g c =
    let one = c.release.ensures in
    let two = c.release-2.ensures in
    let mid = c.in-Ok.ensures.alone in
    record {
      settings = search rules;
      takes = search rules;
      notes = search rules;
      named = mid.named;
      apart = closed_first c.args.name.now c.args.store.now c.args.journal.now c.release.new.self c.release-2.new.self
          c.recover_synced.new.store c.recover_synced.new.journal one.opened _ two.known mid.apart;
      unchanged = untouched_beside g.D.Disk g.E.Disk _ _ _ (takes_disk c.recover_synced.new.store) _ _ _
          (journals_disk c.recover_synced.new.journal) (Ok c.in-Ok.recovered) one.disk refl two.disk refl mid.unchanged;
    }

pub returns-in-Err-clause-alone : goal.returns-in-Err-clause-alone
returns-in-Err-clause-alone g c =
    let one = c.release.ensures in
    let two = c.release-2.ensures in
    let mid = c.in-Err.ensures.alone in
    let last = c.release-in-Err.ensures in
    let last_notes = c.release-in-Err-2.ensures in
    record {
      settings = search rules;
      takes = search rules;
      notes = search rules;
      named = mid.named;
      apart = open_then c.args.name.now c.args.store.now c.args.journal.now c.recover_synced.new.store
          c.recover_synced.new.journal c.release-in-Err.new.self c.release-in-Err-2.new.self
          (closed_first c.args.name.now c.args.store.now c.args.journal.now c.release.new.self c.release-2.new.self
          c.recover_synced.new.store c.recover_synced.new.journal one.opened _ two.known mid.apart)
          (closed_open c.args.name.now c.recover_synced.new.store c.recover_synced.new.journal c.release-in-Err.new.self
          c.release-in-Err-2.new.self last.opened _ last_notes.known);
      unchanged = untouched_beside g.D.Disk g.E.Disk _ _ _ _ _ _ _ _ (Err c.in-Err.fault) one.disk last.disk two.disk
          last_notes.disk mid.unchanged;
    }
