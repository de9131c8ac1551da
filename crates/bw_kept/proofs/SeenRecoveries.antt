-- What recovering a name makes of it, by what was seen of it before.
use Rattle.std.proofs.Common.{◌≡◌, ◌∙◌, ℕ, Bool, List, sym, ap, subst}
use Rattle.std.specs.Prelude.{Result}
use Rattle.bw_disk.specs.DiskSteps.{StaysWhole}
use Rattle.bw_disk.specs.declared.disk.Disk.{Ghosts}
use Rattle.bw_disk.proofs.DiskChains.{stays_twice}
use Rattle.bw_recovery.proofs.ListForms.{if_ok}
use Rattle.bw_folder.specs.Journals.{existence_of}
use Rattle.bw_folder.specs.TakeFolders.{takes_disk, open_takes}
use Rattle.bw_folder.specs.JournalFolders.{journals_disk, open_journals, noted_in_folder}
use Rattle.bw_folder.specs.PendingNotes.{UnwrittenNotes, unwritten_of, waits}
use Rattle.bw_folder.specs.FolderDisks.{KeepsStore, KeepsFolderJournal}
use Rattle.bw_folder.specs.declared.folder.FolderStore.{FolderStore}
use Rattle.bw_folder.specs.declared.journal.FolderJournal.{FolderJournal}
use Rattle.bw_kept.specs.Recoveries.{HasTooManyIn, IfUntouched, KeepsBothSettings, RecoversIn, is_failed_call}
use Rattle.bw_kept.specs.Recoveries.{opened_story}
use Rattle.bw_kept.specs.RecoverySteps.{OpensMoreIn, RecoversAlone, RecoversFrom}
use Rattle.bw_kept.specs.declared.recovery.RecoverFault.{RecoverFault}
use Rattle.bw_kept.specs.declared.recovery.Recovered.{Recovered}
use Rattle.bw_kept.proofs.OpenLists.{open_then, opens_after, same_open}
use Rattle.bw_kept.proofs.RecoveryForms.{numbers_then, touched_then}
use Rattle.bw_kept.proofs.SeenAlike.{SeesSame, counts_here, kept_here, many_here, recovers_here, story_here}

-- the disks before are the same, and so are those after it
pub untouched_beside : {D E F H : Type 0} (G : Ghosts D F) (K : Ghosts E H) (a b c d : D) (w x y z : E)
    (r : Result Recovered RecoverFault) → b ≡ a → d ≡ c → x ≡ w → z ≡ y →
    IfUntouched r (StaysWhole G b c × StaysWhole K x y) → IfUntouched r (StaysWhole G a d × StaysWhole K w z)
untouched_beside G K a b c d w x y z r first last first_notes last_notes h =
    touched_then (StaysWhole G b c × StaysWhole K x y) (StaysWhole G a d × StaysWhole K w z) r (λ both. (
      subst (StaysWhole G a) (sym last) (subst (λ v. StaysWhole G v c) first both.0),
      subst (StaysWhole K w) (sym last_notes) (subst (λ v. StaysWhole K v y) first_notes both.1),
    )) h

module _ {D E F H : Type 0} {G : Ghosts D F} {K : Ghosts E H} (store : FolderStore D F G)
    (journal : FolderJournal E H K) (store' : FolderStore D F G) (journal' : FolderJournal E H K) where
  pub settings_kept : KeepsStore store store' → KeepsFolderJournal journal journal' →
      KeepsBothSettings store journal store' journal'
  settings_kept s j = record {
    folder = s.folder;
    calls = s.calls;
    failures = s.failures;
    settings = j.settings;
    pending = λ name. ap (λ (all : List (List ℕ × UnwrittenNotes)). waits (unwritten_of all name).bytes) j.pending;
    journal_failures = j.failures;
  }

  module _ (store'' : FolderStore D F G) (journal'' : FolderJournal E H K) where
    pub settings_then : KeepsBothSettings store journal store' journal' →
        KeepsBothSettings store' journal' store'' journal'' → KeepsBothSettings store journal store'' journal''
    settings_then a b = record {
      folder = b.folder ∙ a.folder;
      calls = b.calls ∙ a.calls;
      failures = b.failures ∙ a.failures;
      settings = (b.settings.0 ∙ a.settings.0, b.settings.1 ∙ a.settings.1, b.settings.2 ∙ a.settings.2);
      pending = λ name. b.pending name ∙ a.pending name;
      journal_failures = b.journal_failures ∙ a.journal_failures;
    }

    -- a name was looked at, and then recovered
    pub alone_after : (name : List ℕ) (r : Result Recovered RecoverFault) →
        StaysWhole G (takes_disk store) (takes_disk store') →
        StaysWhole K (journals_disk journal) (journals_disk journal') → KeepsStore store store' →
        KeepsFolderJournal journal journal' → RecoversAlone name r store' journal' store'' journal'' →
        RecoversAlone name r store journal store'' journal''
    alone_after name r takes notes s j b = record {
      settings = settings_then (settings_kept s j) b.settings;
      takes = b.takes ∙ takes.honest;
      notes = b.notes ∙ notes.honest;
      named = b.named;
      apart = open_then name store journal store' journal' store'' journal''
          (same_open name store journal store' journal' s.takes j.journals) b.apart;
      unchanged = touched_then _ _ r
          (λ both. (stays_twice G _ _ _ takes both.0, stays_twice K _ _ _ notes both.1)) b.unchanged;
    }

    pub recovers_after : SeesSame store journal store' journal' → open_takes store' ≡ open_takes store →
        open_journals journal' ≡ open_journals journal →
        G.failures (takes_disk store') ≡ G.failures (takes_disk store) →
        K.failures (journals_disk journal') ≡ K.failures (journals_disk journal) → (limit : ℕ) (name : List ℕ)
        (r : Result Recovered RecoverFault) → RecoversFrom limit name r store' journal' store'' journal'' →
        RecoversFrom limit name r store journal store'' journal''
    recovers_after seen takes journals t n limit name r b = record {
      recovered = if_ok r (RecoversIn limit name store' journal' store'' journal'')
          (RecoversIn limit name store journal store'' journal'')
          (recovers_here store journal store' journal' seen store'' journal'' limit name) b.recovered;
      opened = if_ok r (OpensMoreIn limit name store' journal' store'' journal'')
          (OpensMoreIn limit name store journal store'' journal'')
          (λ x h. opens_after name (opened_story limit name (noted_in_folder journal name) x)
          (opened_story limit name (noted_in_folder journal' name) x) store journal store' journal' store'' journal''
          (story_here store journal store' journal' seen limit name x) takes journals h) b.opened;
      kept = kept_here store journal store' journal' seen store'' journal'' limit name b.kept;
      many = numbers_then (HasTooManyIn limit name store' journal') (HasTooManyIn limit name store journal) r
          (many_here store journal store' journal' seen limit name) b.many;
      failures = λ closed.
          counts_here store journal store' journal' seen store'' journal'' name (is_failed_call r) t n
          (b.failures (ap (λ (known : List (List ℕ × Bool)). existence_of known name) journals ∙ closed));
    }
