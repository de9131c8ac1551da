-- A name that was recovered is new, and both disks show alike whether it has a file, or it is put off.
use Rattle.std.proofs.Common.{◌≡◌, inl, inr, ◌∙◌, ℕ, true, false, List, Option, Result, Ok, Err, sym, ap, subst}
use Rattle.std.specs.Prelude.{IfOk, IfErr, IsTrue, OnOk, OnErr}
use Rattle.bw_disk.specs.Volumes.{KeepsEach}
use Rattle.bw_model.specs.Counts.{Counts}
use Rattle.bw_disk.specs.DiskSteps.{StaysWhole}
use Rattle.bw_disk.specs.declared.disk.Disk.{Ghosts}
use Rattle.bw_recovery.specs.CountedFaults.{CountsOneUnless}
use Rattle.bw_recovery.specs.Changes.{IsCrowded}
use Rattle.bw_journal.specs.Replays.{Story}
use Rattle.bw_folder.specs.Folders.{names_but}
use Rattle.bw_folder.specs.Journals.{known_but}
use Rattle.bw_folder.specs.TakeFolders.{takes_disk, takes_folder, open_takes, take_in_folder}
use Rattle.bw_folder.specs.JournalFolders.{journals_disk, journals_limit, open_journals, noted_in_folder, IsSyncedName}
use Rattle.bw_folder.specs.Commits.{IsAllCommitted}
use Rattle.bw_folder.specs.FolderDisks.{AreOfOneFolder, ShowsAlike}
use Rattle.bw_kept.specs.RecoveredNames.{CountsUnlessCrowded}
use Rattle.bw_folder.specs.declared.folder.FolderStore.{FolderStore}
use Rattle.bw_folder.specs.declared.journal.FolderJournal.{FolderJournal}
use Rattle.bw_kept.specs.Recoveries.{IfKept, IfNew, IsKeptUnder, KeepsBothSettings, KeepsInFolder, Recovers, RecoversIn}
use Rattle.bw_kept.specs.Recoveries.{OpensIn, opened_story}
use Rattle.bw_kept.specs.Visits.{ClosesFiles, IsDifference, IsReason, RecoversName}
use Rattle.bw_kept.specs.declared.delay.Delay.{Delay}
use Rattle.bw_kept.specs.declared.delay.Delay.TheVariants as delay
use Rattle.bw_kept.specs.declared.recovery.Recovered.{Recovered}
use Rattle.bw_kept.specs.declared.recovery.Recovered.TheVariants.{New}
use Rattle.bw_kept.proofs.OpenLists.{names_more, known_more, names_twice, known_twice}
use Rattle.bw_kept.proofs.SeenAlike.{SeesSame, whole_disks, still_folder, same_notes, same_take, kept_there}

-- no call failed
none_of_takes : (Excused : Type 0) (t t' n n' : ℕ) → CountsOneUnless Excused t t' n n' false → t' ≡ t
none_of_takes Excused t t' n n' (inl (inl (c, e))) = c.quiet refl_false
  where
    refl_false : false ≡ false
    refl_false = cc
none_of_takes Excused t t' n n' (inl (inr (e, c))) = e
none_of_takes Excused t t' n n' (inr (e, f, x)) = e

none_of_notes : (Excused : Type 0) (t t' n n' : ℕ) → CountsOneUnless Excused t t' n n' false → n' ≡ n
none_of_notes Excused t t' n n' (inl (inl (c, e))) = e
none_of_notes Excused t t' n n' (inl (inr (e, c))) = c.quiet refl_false
  where
    refl_false : false ≡ false
    refl_false = cc
none_of_notes Excused t t' n n' (inr (e, f, x)) = f

module _ {D E F H : Type 0} {G : Ghosts D F} {K : Ghosts E H} (name : List ℕ)
    (store : FolderStore D F G) (journal : FolderJournal E H K) (mid : FolderStore D F G) (mid_journal : FolderJournal E H K)
    (later : FolderStore D F G) (later_journal : FolderJournal E H K)
    (settings : KeepsBothSettings store journal mid mid_journal)
    (honest : G.honest (takes_disk mid) ≡ G.honest (takes_disk store))
    (honest_notes : K.honest (journals_disk mid_journal) ≡ K.honest (journals_disk journal))
    (kept : AreOfOneFolder store journal → KeepsInFolder (journals_limit journal) name store journal mid mid_journal)
    (recovered : AreOfOneFolder store journal →
    RecoversIn (journals_limit journal) name store journal mid mid_journal New)
    (opened : AreOfOneFolder store journal → IsAllCommitted journal →
    OpensIn (journals_limit journal) name store journal mid mid_journal New)
    (failures : AreOfOneFolder store journal → IsAllCommitted journal →
    CountsUnlessCrowded name store journal mid mid_journal false)
    (takes : StaysWhole G (takes_disk mid) (takes_disk later))
    (notes : StaysWhole K (journals_disk mid_journal) (journals_disk later_journal))
    (noted : IsTrue (K.honest (journals_disk mid_journal)) →
    KeepsEach (noted_in_folder mid_journal) (noted_in_folder later_journal))
    (then_settings : KeepsBothSettings mid mid_journal later later_journal) where
  abbrev limit : ℕ
  limit = journals_limit journal

  abbrev story : Option Story
  story = opened_story limit name (noted_in_folder journal name) New

  settings_both : KeepsBothSettings store journal later later_journal
  settings_both = record {
    folder = then_settings.folder ∙ settings.folder;
    calls = then_settings.calls ∙ settings.calls;
    failures = then_settings.failures ∙ settings.failures;
    settings = (
      then_settings.settings.0 ∙ settings.settings.0,
      then_settings.settings.1 ∙ settings.settings.1,
      then_settings.settings.2 ∙ settings.settings.2,
    );
    pending = λ n. then_settings.pending n ∙ settings.pending n;
    journal_failures = then_settings.journal_failures ∙ settings.journal_failures;
  }

  module _ (one : AreOfOneFolder store journal) where
    one_then : AreOfOneFolder mid mid_journal
    one_then = still_folder store journal mid mid_journal honest honest_notes settings.folder settings.settings.2 one

    seen : SeesSame mid mid_journal later later_journal
    seen = whole_disks mid mid_journal later later_journal takes notes then_settings.folder then_settings.settings.2
        noted one_then

    kept_both : KeepsInFolder limit name store journal later later_journal
    kept_both = kept_there mid mid_journal later later_journal seen store journal limit name (kept one)

    recovered_both : RecoversIn limit name store journal later later_journal New
    recovered_both =
        subst (λ (o : Option (List ℕ)). Recovers limit name (noted_in_folder journal name) (take_in_folder store name) New
        o (take_in_folder later name)) (sym (same_notes mid mid_journal later later_journal seen name))
        (subst (λ (o : Option (List ℕ)). Recovers limit name (noted_in_folder journal name) (take_in_folder store name) New
        (noted_in_folder mid_journal name) o) (sym (same_take mid mid_journal later later_journal seen name)) (recovered one))

    -- nothing is pending
    module _ (quiet : IsAllCommitted journal) where
      quiet_then : IsAllCommitted mid_journal
      quiet_then n = settings.pending n ∙ quiet n

      opened_both : open_takes later ≡ open_takes mid → open_journals later_journal ≡ open_journals mid_journal →
          OpensIn limit name store journal later later_journal New
      opened_both t n = record { takes = t ∙ (opened one quiet).takes; journals = n ∙ (opened one quiet).journals }

      closed_both : ClosesFiles name mid mid_journal later later_journal → ClosesFiles name store journal later later_journal
      closed_both c = record {
        takes = c.takes ∙ ap (names_but name) (opened one quiet).takes
            ∙ names_more name (names_but name (open_takes store)) story ∙ names_twice name (open_takes store);
        journals = c.journals ∙ ap (known_but name) (opened one quiet).journals
            ∙ known_more name (known_but name (open_journals journal)) story ∙ known_twice name (open_journals journal);
      }

      reason_both : (d : Delay) → IsDifference name mid mid_journal later later_journal d →
          IsReason name store journal later later_journal d
      reason_both delay.CallFailed (inl c) =
          inl (subst (λ (x : ℕ). Counts x (G.failures (takes_disk later)) true)
          (none_of_takes (IsCrowded (takes_folder store) name (G.contents (takes_disk store))) _ _ _ _ (failures one quiet)) c)
      reason_both delay.CallFailed (inr c) =
          inr (inl (subst (λ (x : ℕ). Counts x (K.failures (journals_disk later_journal)) true)
          (none_of_notes (IsCrowded (takes_folder store) name (G.contents (takes_disk store))) _ _ _ _ (failures one quiet)) c))
      reason_both delay.NoMemory d = tt
      reason_both (delay.LeftOut cause) d = d
      reason_both delay.TooManyNumbers d = absurd d
      reason_both delay.TwoFolders d = d
      reason_both delay.NoPlace d = d

  new_as : (r : Recovered) → r ≡ New → (Holds : Recovered → Type 0) → Holds New → Holds r
  new_as r is Holds h = subst Holds (sym is) h

  pub confirmed : (result : Result Recovered Delay) → IfOk result (λ r. r ≡ New) →
      OnOk result (open_takes later ≡ open_takes mid) → OnOk result (open_journals later_journal ≡ open_journals mid_journal) →
      (IsAllCommitted mid_journal → OnErr result (ClosesFiles name mid mid_journal later later_journal)) →
      (AreOfOneFolder mid mid_journal → OnOk result (ShowsAlike name later later_journal)) →
      (AreOfOneFolder mid mid_journal → IfErr result (IsDifference name mid mid_journal later later_journal)) →
      RecoversName name store journal later later_journal result
  confirmed (Ok r) made t n closed alike why = record {
    settings = settings_both;
    takes = takes.honest ∙ honest;
    notes = notes.honest ∙ honest_notes;
    named = new_as r made (IsKeptUnder name) tt;
    kept = kept_both;
    recovered = λ one. new_as r made (RecoversIn limit name store journal later later_journal) (recovered_both one);
    opened = λ one quiet. new_as r made (OpensIn limit name store journal later later_journal) (opened_both one quiet t n);
    closed = λ one quiet. tt;
    alike = λ one. new_as r made (λ x. IfNew x (ShowsAlike name later later_journal)) (alike (one_then one));
    why = λ one quiet. tt;
    synced = λ one on. new_as r made (λ x. IfKept x (IsSyncedName name later_journal)) tt;
  }
  confirmed (Err d) made t n closed alike why = record {
    settings = settings_both;
    takes = takes.honest ∙ honest;
    notes = notes.honest ∙ honest_notes;
    named = tt;
    kept = kept_both;
    recovered = λ one. tt;
    opened = λ one quiet. tt;
    closed = λ one quiet. closed_both one quiet (closed (quiet_then one quiet));
    alike = λ one. tt;
    why = λ one quiet. reason_both one quiet d (why (one_then one));
    synced = λ one on. tt;
  }
