-- A name that was recovered, and then synced.
use Rattle.std.proofs.Common.{◌≡◌, inr, ◌∙◌, ℕ, Bool, true, List, [], ◌∷◌, ◌++◌, Option, Some, None, is_some, IsSome}
use Rattle.std.proofs.Common.{IsTrue, Result, Ok, Err, refl, sym, ap, subst, cond}
use Rattle.std.specs.Prelude.{IfOk, OnOk, option_map}
use Rattle.std.specs.Option.{option_or}
use Rattle.std.specs.List.{find}
use Rattle.std.specs.Str.{bytes_eq}
use Rattle.std.proofs.lemmas.List.Folds.{find-append}
use Rattle.bw_model.proofs.BookLemmas.{name_refl}
use Rattle.bw_disk.specs.declared.disk.Disk.{Ghosts}
use Rattle.bw_journal.specs.Replays.{Story, JournalFault, replay}
use Rattle.bw_recovery.specs.Changes.{IsCrowded}
use Rattle.bw_folder.specs.Journals.{existence_of, known_but}
use Rattle.bw_folder.specs.TakeFolders.{takes_disk, takes_folder, take_in_folder}
use Rattle.bw_folder.specs.JournalFolders.{journals_disk, journals_sync, open_journals, noted_in_folder, IsSyncedName}
use Rattle.bw_folder.specs.PendingNotes.{UnwrittenNotes, unwritten_of, waits}
use Rattle.bw_folder.specs.FolderDisks.{AreOfOneFolder}
use Rattle.bw_folder.specs.declared.folder.FolderStore.{FolderStore}
use Rattle.bw_folder.specs.declared.journal.FolderJournal.{FolderJournal}
use Rattle.bw_session.specs.declared.kept_take.KeptTake.{KeptTake}
use Rattle.bw_kept.specs.Recoveries.{IfKept, IfNumbers, IfUntouched, IsKeptUnder, KeepsBothSettings}
use Rattle.bw_kept.specs.Recoveries.{Recovers, RecoversIn, HasTooManyIn, is_failed_call, opened_story, story_in, journal_opened}
use Rattle.bw_kept.specs.Recoveries.{MadeOfJournal}
use Rattle.bw_kept.specs.RecoverySteps.{OpensMoreIn, RecoversAlone, RecoversFrom, SyncsJournal}
use Rattle.bw_kept.specs.declared.recovery.RecoverFault.{RecoverFault}
use Rattle.bw_kept.specs.declared.recovery.RecoverFault.TheVariants as fault
use Rattle.bw_kept.specs.declared.recovery.Recovered.{Recovered}
use Rattle.bw_kept.specs.declared.recovery.Recovered.TheVariants.{New, LeftOut, Kept}
use Rattle.bw_kept.proofs.RecoveryForms.{counts_then}
use Rattle.bw_kept.proofs.SeenAlike.{SeesSame, same_notes, kept_there}
use Rattle.bw_kept.proofs.SeenRecoveries.{settings_then}

-- what is kept has what it had
kept_as : (k : KeptTake) (r : Result Recovered RecoverFault) (P : Recovered → Type 0) → IfOk r (λ x. x ≡ Kept k) →
    P (Kept k) → IfOk r P
kept_as k (Ok x) P made h = subst P (sym made) h
kept_as k (Err e) P made h = tt

-- of what is kept, and of a failed call, nothing has to stay
changed : (k : KeptTake) (r : Result Recovered RecoverFault) (Holds : Type 0) → IfOk r (λ x. x ≡ Kept k) →
    IfNumbers r ⊥ → IfUntouched r Holds
changed k (Ok New) Holds made most = absurd cc
changed k (Ok (LeftOut cause)) Holds made most = absurd cc
changed k (Ok (Kept j)) Holds made most = tt
changed k (Err fault.Disk) Holds made most = tt
changed k (Err fault.Memory) Holds made most = tt
changed k (Err fault.Numbers) Holds made most = absurd most

few : (r : Result Recovered RecoverFault) (Holds : Type 0) → IfNumbers r ⊥ → IfNumbers r Holds
few (Ok x) Holds most = tt
few (Err fault.Disk) Holds most = tt
few (Err fault.Memory) Holds most = tt
few (Err fault.Numbers) Holds most = absurd most

-- a name that was opened last is known
known_last : (name : List ℕ) (known : List (List ℕ × Bool)) (existed : Bool) →
    IsSome (existence_of (known ++ (name, existed) ∷ []) name)
known_last name known existed =
    ap (λ (o : Option (List ℕ × Bool)). is_some (option_map (λ (it : List ℕ × Bool). it.1) o))
    (find-append (λ (it : List ℕ × Bool). bytes_eq it.0 name) known ((name, existed) ∷ [])
    ∙ ap (λ (b : Bool). option_or (find (λ (it : List ℕ × Bool). bytes_eq it.0 name) known)
    (cond b (Some (name, existed)) None)) (name_refl name))
    ∙ go (find (λ (it : List ℕ × Bool). bytes_eq it.0 name) known)
  where
    go : (o : Option (List ℕ × Bool)) →
        is_some (option_map (λ (it : List ℕ × Bool). it.1) (option_or o (Some (name, existed)))) ≡ true
    go None = refl
    go (Some x) = refl

-- the journal of what is kept has a story
kept_story : (limit : ℕ) (name : List ℕ) (notes file : Option (List ℕ)) (k : KeptTake)
    (later_notes later_file : Option (List ℕ)) → Recovers limit name notes file (Kept k) later_notes later_file →
    IsSome (opened_story limit name notes (Kept k))
kept_story limit name None file k later_notes later_file h = absurd h
kept_story limit name (Some journal) file k later_notes later_file h = go (replay limit name journal) h.made
  where
    go : (x : Result Story JournalFault) → MadeOfJournal name x (Kept k) → IsSome (story_in x)
    go (Ok s) m = refl
    go (Err f) m = absurd cc

module _ {D E F H : Type 0} {G : Ghosts D F} {K : Ghosts E H} (limit : ℕ) (name : List ℕ) (k : KeptTake)
    (store : FolderStore D F G) (journal : FolderJournal E H K) (mid : FolderStore D F G) (mid_journal : FolderJournal E H K)
    (later : FolderJournal E H K) (r : Result Recovered RecoverFault) (made : IfOk r (λ x. x ≡ Kept k))
    (most : IfNumbers r ⊥) (syncs : SyncsJournal K (is_failed_call r) mid_journal later)
    (alone : RecoversAlone name (Ok (Kept k)) store journal mid mid_journal) where
  still : KeepsBothSettings mid mid_journal mid later
  still = record {
    folder = refl;
    calls = refl;
    failures = refl;
    settings = syncs.settings;
    pending = λ n. ap (λ (all : List (List ℕ × UnwrittenNotes)). waits (unwritten_of all n).bytes) syncs.pending;
    journal_failures = syncs.failures;
  }

  pub alone_then : RecoversAlone name r store journal mid later
  alone_then = record {
    settings = settings_then store journal mid mid_journal mid later alone.settings still;
    takes = alone.takes;
    notes = syncs.honest ∙ alone.notes;
    named = kept_as k r (IsKeptUnder name) made alone.named;
    apart = record {
      takes = alone.apart.takes;
      journals = ap (known_but name) syncs.journals ∙ alone.apart.journals;
    };
    unchanged = changed k r _ made most;
  }

  module _ (one : AreOfOneFolder store journal)
      (b : RecoversFrom limit name (Ok (Kept k)) store journal mid mid_journal) where
    honest : IsTrue (K.honest (journals_disk mid_journal))
    honest = subst IsTrue (sym alone.notes) one.notes

    seen : SeesSame mid mid_journal mid later
    seen = record {
      honest_takes = refl;
      honest_notes = syncs.honest;
      folder = refl;
      other = syncs.settings.2;
      takes = λ path. refl;
      notes = syncs.contents honest;
      noted = syncs.noted honest;
    }

    recovered : RecoversIn limit name store journal mid later (Kept k)
    recovered =
        subst (λ (o : Option (List ℕ)). Recovers limit name (noted_in_folder journal name) (take_in_folder store name)
        (Kept k) o (take_in_folder mid name)) (sym (same_notes mid mid_journal mid later seen name)) b.recovered

    opened : OpensMoreIn limit name store journal mid later (Kept k)
    opened = record { takes = b.opened.takes; journals = syncs.journals ∙ b.opened.journals }

    pub recovers_then : RecoversFrom limit name r store journal mid later
    recovers_then = record {
      recovered = kept_as k r (RecoversIn limit name store journal mid later) made recovered;
      opened = kept_as k r (OpensMoreIn limit name store journal mid later) made opened;
      kept = kept_there mid mid_journal mid later seen store journal limit name b.kept;
      many = few r (HasTooManyIn limit name store journal) most;
      failures = λ closed.
          counts_then (IsCrowded (takes_folder store) name (G.contents (takes_disk store))) _ _ _ _ _ _ (is_failed_call r)
          (b.failures closed) (inr (refl, syncs.counts));
    }

    open_now : IsSome (existence_of (open_journals mid_journal) name)
    open_now =
        subst (λ (known : List (List ℕ × Bool)). IsSome (existence_of known name)) (sym b.opened.journals)
        (go (opened_story limit name (noted_in_folder journal name) (Kept k))
        (kept_story limit name (noted_in_folder journal name) (take_in_folder store name) k _ _ b.recovered))
      where
        go : (s : Option Story) → IsSome s → IsSome (existence_of (open_journals journal ++ journal_opened name s) name)
        go None some = absurd cc
        go (Some s) some = known_last name (open_journals journal) s.parts.taken

    pub synced_then : (IsTrue (K.honest (journals_disk mid_journal)) → IsTrue (journals_sync mid_journal) →
        IsSome (existence_of (open_journals mid_journal) name) → OnOk r (IsSyncedName name later)) →
        IsTrue (journals_sync journal) → IfOk r (λ x. IfKept x (IsSyncedName name later))
    synced_then done on =
        all r (done honest (subst IsTrue (sym alone.settings.settings.1) on) open_now)
      where
        all : (x : Result Recovered RecoverFault) → OnOk x (IsSyncedName name later) →
            IfOk x (λ y. IfKept y (IsSyncedName name later))
        all (Ok New) h = tt
        all (Ok (LeftOut cause)) h = tt
        all (Ok (Kept j)) h = h
        all (Err e) h = tt
