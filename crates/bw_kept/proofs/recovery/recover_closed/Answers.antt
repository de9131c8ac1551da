use Rattle.std.proofs.Common.{Option, inl, subst}
use Rattle.bw_recovery.specs.declared.finding.Finding.{Finding}
use Rattle.bw_kept.specs.RecoveredNames.{FindsIn}
use Rattle.bw_folder.specs.TakeFolders.{take_in_folder}
use Rattle.bw_folder.specs.JournalFolders.{noted_in_folder}
use Rattle.bw_kept.specs.Recoveries.{opened_story, HasTooManyIn}
use Rattle.bw_kept.specs.declared.recovery.Recovered.{Recovered}
use Rattle.bw_kept.specs.declared.recovery.Recovered.TheVariants.{New}
use Rattle.bw_kept.proofs.OpenLists.{opens_none, same_open}
use Rattle.bw_kept.proofs.RecoveryForms.{failed_read, new_name, new_story, quiet_notes, quiet_takes, read_else}
use Rattle.bw_kept.proofs.RecoveryForms.{touched_else}
use Rattle.bw_kept.proofs.SeenAlike.{found_then, kept_same, same_notes, same_take, whole_disks}
use Rattle.bw_kept.proofs.SeenRecoveries.{alone_after, recovers_after, settings_kept}
use Rattle.bw_kept.proofs.recovery.recover_closed.Goals as goal

pub returns-in-Ok-None-clause-alone : goal.returns-in-Ok-None-clause-alone
returns-in-Ok-None-clause-alone g c =
    let looked = c.look_at_name.ensures in
    record {
      settings = settings_kept c.args.store.now c.args.journal.now c.look_at_name.new.store c.look_at_name.new.journal
          looked.store looked.journal;
      takes = looked.takes.honest;
      notes = looked.notes.honest;
      named = tt;
      apart = same_open c.args.name.now c.args.store.now c.args.journal.now c.look_at_name.new.store
          c.look_at_name.new.journal looked.store.takes looked.journal.journals;
      unchanged = tt;
    }

pub returns-in-Ok-None-clause-recovered : goal.returns-in-Ok-None-clause-recovered
returns-in-Ok-None-clause-recovered g c = λ one.
    let store = c.args.store.now in
    let journal = c.args.journal.now in
    let later_store = c.look_at_name.new.store in
    let later_journal = c.look_at_name.new.journal in
    let limit = c.args.limit in
    let name = c.args.name.now in
    let notes = noted_in_folder journal name in
    let file = take_in_folder store name in
    let looked = c.look_at_name.ensures in
    let seen = whole_disks store journal later_store later_journal looked.takes looked.notes looked.store.folder
    looked.journal.settings.2 looked.noted one in
    let none = subst (λ (o : Option Finding). FindsIn limit name store journal o) c.in-Ok-None.field-0-is
    (c.in-Ok-None.ensures.found one) in
    record {
      recovered = new_name limit name notes file (noted_in_folder later_journal name) (take_in_folder later_store name)
          none (same_notes store journal later_store later_journal seen name)
          (same_take store journal later_store later_journal seen name);
      opened = opens_none name (opened_story limit name notes New) store journal later_store later_journal
          (new_story limit name notes file none) looked.store.takes looked.journal.journals;
      kept = kept_same store journal later_store later_journal seen limit name;
      many = tt;
      failures = λ closed. inl c.in-Ok-None.ensures.failures;
    }

pub returns-in-Ok-Some-clause-alone : goal.returns-in-Ok-Some-clause-alone
returns-in-Ok-Some-clause-alone g c =
    let looked = c.look_at_name.ensures in
    alone_after c.args.store.now c.args.journal.now c.look_at_name.new.store c.look_at_name.new.journal
    c.recover_found.new.store c.recover_found.new.journal c.args.name.now c.recover_found.result looked.takes
    looked.notes looked.store looked.journal c.recover_found.ensures.alone

pub returns-in-Ok-Some-clause-recovered : goal.returns-in-Ok-Some-clause-recovered
returns-in-Ok-Some-clause-recovered g c = λ one.
    let store = c.args.store.now in
    let journal = c.args.journal.now in
    let later_store = c.look_at_name.new.store in
    let later_journal = c.look_at_name.new.journal in
    let limit = c.args.limit in
    let name = c.args.name.now in
    let looked = c.look_at_name.ensures in
    let seen = whole_disks store journal later_store later_journal looked.takes looked.notes looked.store.folder
    looked.journal.settings.2 looked.noted one in
    let found = subst (λ (o : Option Finding). FindsIn limit name store journal o) c.in-Ok-Some.field-0-is
    (c.in-Ok-Some.ensures.found one) in
    recovers_after store journal later_store later_journal c.recover_found.new.store c.recover_found.new.journal seen
    looked.store.takes looked.journal.journals (quiet_takes _ _ _ _ c.in-Ok-Some.ensures.failures)
    (quiet_notes _ _ _ _ c.in-Ok-Some.ensures.failures) limit name c.recover_found.result
    (c.recover_found.ensures.recovered limit
    (found_then store journal later_store later_journal seen limit name c.in-Ok-Some.finding one found))

pub returns-in-Err-clause-alone : goal.returns-in-Err-clause-alone
returns-in-Err-clause-alone g c =
    let looked = c.look_at_name.ensures in
    record {
      settings = settings_kept c.args.store.now c.args.journal.now c.look_at_name.new.store c.look_at_name.new.journal
          looked.store looked.journal;
      takes = looked.takes.honest;
      notes = looked.notes.honest;
      named = tt;
      apart = same_open c.args.name.now c.args.store.now c.args.journal.now c.look_at_name.new.store
          c.look_at_name.new.journal looked.store.takes looked.journal.journals;
      unchanged = touched_else _ c.in-Err.fault c.of_read.result c.of_read.ensures;
    }

pub returns-in-Err-clause-recovered : goal.returns-in-Err-clause-recovered
returns-in-Err-clause-recovered g c = λ one.
    let store = c.args.store.now in
    let journal = c.args.journal.now in
    let later_store = c.look_at_name.new.store in
    let later_journal = c.look_at_name.new.journal in
    let looked = c.look_at_name.ensures in
    record {
      recovered = tt;
      opened = tt;
      kept = kept_same store journal later_store later_journal (whole_disks store journal later_store later_journal
          looked.takes looked.notes looked.store.folder looked.journal.settings.2 looked.noted one) c.args.limit c.args.name.now;
      many = read_else (HasTooManyIn c.args.limit c.args.name.now store journal) c.in-Err.fault c.of_read.result
          c.of_read.ensures;
      failures = λ closed. failed_read Recovered (Option Finding) _ _ _ _ _ c.in-Err.fault c.of_read.result c.of_read.ensures
          (inl c.in-Err.ensures.failures);
    }
