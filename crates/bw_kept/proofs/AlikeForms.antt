-- A name that recovery leaves out, or fails at: it is put off for that reason.
use Rattle.std.proofs.Common.{◌≡◌, inl, inr, ◌∙◌, ℕ, true, false, [], ◌∷◌, List, Option, None, Ok, Err, sym, refl, ap, subst}
use Rattle.std.specs.Prelude.{IsTrue}
use Rattle.std.proofs.lemmas.List.{append-nil}
use Rattle.bw_disk.specs.DiskSteps.{StaysWhole}
use Rattle.bw_disk.specs.declared.disk.Disk.{Ghosts}
use Rattle.bw_recovery.specs.declared.finding.NameFault.{NameFault}
use Rattle.bw_folder.specs.Folders.{names_but}
use Rattle.bw_folder.specs.Journals.{journal_path, known_but, notes_at}
use Rattle.bw_folder.specs.TakeFolders.{takes_disk, open_takes}
use Rattle.bw_folder.specs.JournalFolders.{journals_disk, journals_folder, journals_limit, open_journals, unwritten_in}
use Rattle.bw_folder.specs.JournalFolders.{journal_on_disk, noted_in_folder}
use Rattle.bw_folder.specs.PendingNotes.{UnwrittenNotes, noted_with, unwritten_of, waits, with_pending}
use Rattle.bw_folder.specs.Commits.{IsAllCommitted}
use Rattle.bw_folder.specs.FolderDisks.{AreOfOneFolder}
use Rattle.bw_kept.specs.RecoveredNames.{CountsUnlessCrowded}
use Rattle.bw_folder.specs.declared.folder.FolderStore.{FolderStore}
use Rattle.bw_folder.specs.declared.journal.FolderJournal.{FolderJournal}
use Rattle.bw_kept.specs.Recoveries.{HasTooManyIn, IfNumbers, KeepsInFolder, OpensIn, OpensStory, RecoversIn, is_failed_call}
use Rattle.bw_kept.specs.RecoverySteps.{RecoversAlone}
use Rattle.bw_kept.specs.Visits.{ClosesFiles, IsReason, RecoversName, delay_by}
use Rattle.bw_kept.specs.declared.recovery.RecoverFault.{RecoverFault}
use Rattle.bw_kept.specs.declared.recovery.RecoverFault.TheVariants.{Disk, Memory, Numbers}
use Rattle.bw_kept.specs.declared.recovery.Recovered.{Recovered}
use Rattle.bw_kept.specs.declared.recovery.Recovered.TheVariants.{LeftOut}
use Rattle.bw_kept.proofs.SeenAlike.{SeesSame, many_there, whole_disks}

-- where nothing is pending, what is noted is what the file has
noted_quiet : (p : UnwrittenNotes) (found : Option (List ℕ)) → waits p.bytes ≡ false → noted_with p found ≡ found
noted_quiet p found none = go p.bytes none
  where
    go : (bytes : List ℕ) → waits bytes ≡ false → with_pending p.place bytes found ≡ found
    go [] none = refl
    go (b ∷ bytes) none = absurd cc

module _ {D E F H : Type 0} {G : Ghosts D F} {K : Ghosts E H} (name : List ℕ)
    (store : FolderStore D F G) (journal : FolderJournal E H K) (later : FolderStore D F G)
    (later_journal : FolderJournal E H K) where
  -- nothing changes of a name that is left out
  pub left_out_alike : (cause : NameFault) → RecoversAlone name (Ok (LeftOut cause)) store journal later later_journal →
      (AreOfOneFolder store journal → KeepsInFolder (journals_limit journal) name store journal later later_journal) →
      (AreOfOneFolder store journal →
      RecoversIn (journals_limit journal) name store journal later later_journal (LeftOut cause)) →
      (AreOfOneFolder store journal → IsAllCommitted journal →
      OpensIn (journals_limit journal) name store journal later later_journal (LeftOut cause)) →
      RecoversName name store journal later later_journal (Ok (LeftOut cause))
  left_out_alike cause alone kept recovered opened = record {
    settings = alone.settings;
    takes = alone.takes;
    notes = alone.notes;
    named = tt;
    kept = kept;
    recovered = recovered;
    opened = opened;
    closed = λ one quiet. tt;
    alike = λ one. tt;
    why = λ one quiet. tt;
    synced = λ one on. tt;
  }

  module _ (fault : RecoverFault) (alone : RecoversAlone name (Err fault) store journal later later_journal)
      (kept : AreOfOneFolder store journal → KeepsInFolder (journals_limit journal) name store journal later later_journal)
      (closed : IsAllCommitted journal → OpensStory name None store journal later later_journal)
      (many : AreOfOneFolder store journal →
      IfNumbers {T = Recovered} (Err fault) (HasTooManyIn (journals_limit journal) name store journal))
      (failures : AreOfOneFolder store journal → IsAllCommitted journal →
      CountsUnlessCrowded name store journal later later_journal (is_failed_call {T = Recovered} (Err fault))) where
    -- on disks that stay as they are, what is noted does
    noted_still : StaysWhole K (journals_disk journal) (journals_disk later_journal) → IsAllCommitted journal →
        IsTrue (K.honest (journals_disk journal)) → (n : List ℕ) → noted_in_folder later_journal n ≡ noted_in_folder journal n
    noted_still whole quiet honest n =
        noted_quiet (unwritten_of (unwritten_in later_journal) n) (journal_on_disk later_journal n)
        (alone.settings.pending n ∙ quiet n)
        ∙ ap (λ (f : List ℕ). notes_at (K.contents (journals_disk later_journal)) f n) alone.settings.settings.2
        ∙ whole.contents honest (journal_path (journals_folder journal) n)
        ∙ sym (noted_quiet (unwritten_of (unwritten_in journal) n) (journal_on_disk journal n) (quiet n))

    reason : AreOfOneFolder store journal → IsAllCommitted journal → (f : RecoverFault) → f ≡ fault →
        IsReason name store journal later later_journal (delay_by f)
    reason one quiet Disk is =
        counted (subst (λ (f : RecoverFault).
        CountsUnlessCrowded name store journal later later_journal (is_failed_call {T = Recovered} (Err f))) (sym is)
        (failures one quiet))
      where
        counted : CountsUnlessCrowded name store journal later later_journal true →
            IsReason name store journal later later_journal (delay_by Disk)
        counted (inl (inl (c, same))) = inl c
        counted (inl (inr (same, c))) = inr (inl c)
        counted (inr (same, same_notes, crowded)) = inr (inr crowded)
    reason one quiet Memory is = tt
    reason one quiet Numbers is =
        let both = subst (λ (f : RecoverFault). RecoversAlone name (Err f) store journal later later_journal) (sym is) alone in
        let seen : SeesSame store journal later later_journal =
        whole_disks store journal later later_journal both.unchanged.0 both.unchanged.1 alone.settings.folder
        alone.settings.settings.2 (noted_still both.unchanged.1 quiet) one in
        many_there store journal later later_journal seen (journals_limit journal) name
        (subst (λ (f : RecoverFault).
        IfNumbers {T = Recovered} (Err f) (HasTooManyIn (journals_limit journal) name store journal)) (sym is) (many one))

    closed_alike : IsAllCommitted journal → ClosesFiles name store journal later later_journal
    closed_alike quiet = record {
      takes = (closed quiet).takes ∙ append-nil (names_but name (open_takes store));
      journals = (closed quiet).journals ∙ append-nil (known_but name (open_journals journal));
    }

    -- the recovery failed
    pub put_off_alike : RecoversName name store journal later later_journal (Err (delay_by fault))
    put_off_alike = record {
      settings = alone.settings;
      takes = alone.takes;
      notes = alone.notes;
      named = tt;
      kept = kept;
      recovered = λ one. tt;
      opened = λ one quiet. tt;
      closed = λ one quiet. closed_alike quiet;
      alike = λ one. tt;
      why = λ one quiet. reason one quiet fault refl;
      synced = λ one on. tt;
    }
