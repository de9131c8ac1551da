use Rattle.std.proofs.Common.{Bool, ◌∙◌, Some, List, ℕ, refl, rules, sym, ap, subst}
use Rattle.bw_recovery.specs.Changes.{IsCrowded}
use Rattle.bw_recovery.specs.declared.finding.Finding.{Finding}
use Rattle.bw_recovery.proofs.ListForms.{if_ok, if_ok_both}
use Rattle.bw_folder.specs.Journals.{existence_of}
use Rattle.bw_folder.specs.TakeFolders.{takes_disk, takes_folder, take_in_folder}
use Rattle.bw_folder.specs.JournalFolders.{noted_in_folder}
use Rattle.bw_kept.specs.RecoveredNames.{FindsName}
use Rattle.bw_kept.specs.Recoveries.{opened_story, RecoversIn, is_failed_call, HasTooManyIn, IsKeptUnder}
use Rattle.bw_kept.specs.RecoverySteps.{OpensMoreIn, OpensMore, MadeOfFinding, story_found}
use Rattle.bw_kept.specs.declared.recovery.Recovered.{Recovered}
use Rattle.bw_kept.specs.declared.recovery.Recovered.TheVariants.{LeftOut}
use Rattle.bw_kept.proofs.RecoveryForms.{left_out, left_out_story, going, going_story, has_files, counts_then}
use Rattle.bw_kept.proofs.RecoveryForms.{failed_read, touched, touched_else, going_sound, too_many, numbers_then}
use Rattle.bw_kept.proofs.RecoveryForms.{read_else, made_under}
use Rattle.bw_kept.proofs.SeenAlike.{whole_disks, still_folder, restores_there, kept_none, kept_there}
use Rattle.bw_kept.proofs.SeenRecoveries.{settings_kept, settings_then}
use Rattle.bw_kept.proofs.OpenLists.{opens_none, opens_after, same_open, open_then}
use Rattle.bw_kept.proofs.recovery.recover_found.Goals as goal

pub returns-in-Refused-clause-recovered : goal.returns-in-Refused-clause-recovered
returns-in-Refused-clause-recovered g c = λ limit f.
    let store = c.args.store.now in
    let journal = c.args.journal.now in
    let name = c.args.name.now in
    let notes = noted_in_folder journal name in
    let file = take_in_folder store name in
    let fault = c.in-Refused.fault in
    record {
      recovered = left_out limit name notes file fault
          (subst (λ (x : Finding). FindsName limit name notes file (Some x)) c.in-Refused.is f.found);
      opened = opens_none name (opened_story limit name notes (LeftOut fault)) store journal store journal
          (left_out_story limit name notes fault) refl refl;
      kept = kept_none limit name store journal;
      many = tt;
      failures = search rules;
    }

pub returns-then-is_overfull-clause-recovered : goal.returns-then-is_overfull-clause-recovered
returns-then-is_overfull-clause-recovered g c = λ limit f.
    let store = c.args.store.now in
    let journal = c.args.journal.now in
    let name = c.args.name.now in
    record {
      recovered = tt;
      opened = tt;
      kept = kept_none limit name store journal;
      many = too_many limit name (noted_in_folder journal name) (take_in_folder store name) c.args.finding f.found
          (c.is_overfull.ensures.many c.if-is_overfull.true);
      failures = search rules;
    }

pub returns-in-Ok-clause-alone : goal.returns-in-Ok-clause-alone
returns-in-Ok-clause-alone g c =
    let store = c.args.store.now in
    let journal = c.args.journal.now in
    let mid_store = c.restore_in_folder.new.store in
    let mid_journal = c.restore_in_folder.new.journal in
    let later_store = c.reopen_found.new.store in
    let later_journal = c.reopen_found.new.journal in
    let name = c.args.name.now in
    let restored = c.restore_in_folder.ensures in
    let reopened = c.reopen_found.ensures in
    record {
      settings = settings_then store journal mid_store mid_journal later_store later_journal
          (settings_kept store journal mid_store mid_journal restored.store restored.journal) reopened.settings;
      takes = reopened.takes.honest ∙ restored.takes;
      notes = reopened.notes.honest ∙ restored.notes;
      named = if_ok c.reopen_found.result (MadeOfFinding name c.args.finding) (IsKeptUnder name)
          (made_under name c.args.finding) reopened.made;
      apart = open_then name store journal mid_store mid_journal later_store later_journal
          (same_open name store journal mid_store mid_journal restored.store.takes restored.journal.journals)
          reopened.apart;
      unchanged = touched name c.args.finding c.reopen_found.result _ c.in_default.not-Refused reopened.made
          reopened.most;
    }

pub returns-in-Ok-clause-recovered : goal.returns-in-Ok-clause-recovered
returns-in-Ok-clause-recovered g c = λ limit f.
    let store = c.args.store.now in
    let journal = c.args.journal.now in
    let mid_store = c.restore_in_folder.new.store in
    let mid_journal = c.restore_in_folder.new.journal in
    let later_store = c.reopen_found.new.store in
    let later_journal = c.reopen_found.new.journal in
    let name = c.args.name.now in
    let notes = noted_in_folder journal name in
    let file = take_in_folder store name in
    let finding = c.args.finding in
    let goes = c.in_default.not-Refused in
    let restored = c.restore_in_folder.ensures in
    let reopened = c.reopen_found.ensures in
    let result = c.reopen_found.result in
    let restores = c.in-Ok.ensures.restored f.one limit f.found in
    let one' = still_folder store journal mid_store mid_journal restored.takes restored.notes restored.store.folder
    restored.journal.settings.2 f.one in
    let seen = whole_disks mid_store mid_journal later_store later_journal reopened.takes reopened.notes
    reopened.settings.folder reopened.settings.settings.2 reopened.noted one' in
    record {
      recovered = if_ok result (MadeOfFinding name finding)
          (RecoversIn limit name store journal later_store later_journal)
          (λ r made. going limit name notes file finding r (noted_in_folder later_journal name)
          (take_in_folder later_store name) goes f.found
          (restores_there mid_store mid_journal later_store later_journal seen store journal limit name restores)
          made) reopened.made;
      opened = if_ok_both result (MadeOfFinding name finding)
          (λ r. OpensMore name (story_found finding) mid_store mid_journal later_store later_journal)
          (OpensMoreIn limit name store journal later_store later_journal)
          (λ r made more. opens_after name (opened_story limit name notes r) (story_found finding) store journal
          mid_store mid_journal later_store later_journal
          (sym (going_story limit name notes file finding r goes f.found made)) restored.store.takes
          restored.journal.journals more) reopened.made reopened.opened;
      kept = kept_there mid_store mid_journal later_store later_journal seen store journal limit name (record {
        left = restored.left f.one limit f.found;
        faulty = λ fault. going_sound limit name notes file finding goes f.found fault;
        others = restored.others f.one;
        noted = restored.noted f.one;
      });
      many = numbers_then ⊥ (HasTooManyIn limit name store journal) result (λ none. absurd none) reopened.most;
      failures = λ closed.
          counts_then (IsCrowded (takes_folder store) name (g.D.Disk.contents (takes_disk store))) _ _ _ _ _ _
          (is_failed_call result) (c.in-Ok.ensures.failures f.one limit f.found)
          (reopened.failures one'.takes one'.notes
          (ap (λ (known : List (List ℕ × Bool)). existence_of known name) restored.journal.journals ∙ closed)
          (has_files limit name notes file finding (noted_in_folder mid_journal name) (take_in_folder mid_store name)
          f.found restores));
    }

pub returns-in-Err-clause-alone : goal.returns-in-Err-clause-alone
returns-in-Err-clause-alone g c =
    let restored = c.restore_in_folder.ensures in
    record {
      settings = settings_kept c.args.store.now c.args.journal.now c.restore_in_folder.new.store
          c.restore_in_folder.new.journal restored.store restored.journal;
      takes = restored.takes;
      notes = restored.notes;
      named = tt;
      apart = same_open c.args.name.now c.args.store.now c.args.journal.now c.restore_in_folder.new.store
          c.restore_in_folder.new.journal restored.store.takes restored.journal.journals;
      unchanged = touched_else _ c.in-Err.fault c.of_read.result c.of_read.ensures;
    }

pub returns-in-Err-clause-recovered : goal.returns-in-Err-clause-recovered
returns-in-Err-clause-recovered g c = λ limit f.
    let store = c.args.store.now in
    let journal = c.args.journal.now in
    let name = c.args.name.now in
    let restored = c.restore_in_folder.ensures in
    record {
      recovered = tt;
      opened = tt;
      kept = record {
        left = restored.left f.one limit f.found;
        faulty = λ fault. going_sound limit name (noted_in_folder journal name) (take_in_folder store name)
            c.args.finding c.in_default.not-Refused f.found fault;
        others = restored.others f.one;
        noted = restored.noted f.one;
      };
      many = read_else (HasTooManyIn limit name store journal) c.in-Err.fault c.of_read.result c.of_read.ensures;
      failures = λ closed. failed_read Recovered (Unit {0}) _ _ _ _ _ c.in-Err.fault c.of_read.result c.of_read.ensures
          (c.in-Err.ensures.failures f.one limit f.found);
    }
