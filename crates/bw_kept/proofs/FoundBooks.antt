-- A name that was recovered is found, with the folder's book.
use Rattle.std.proofs.Common.{◌≡◌, inl, inr, ℕ, true, false, List, Option, None}
use Rattle.std.proofs.Common.{Ok, Err, ◌∙◌, ap, subst, arith}
use Rattle.std.specs.Prelude.{IsTrue, IsSome, is_some}
use Rattle.bw_model.specs.Book.{Book}
use Rattle.bw_model.specs.Counts.{Counts}
use Rattle.bw_store.specs.declared.store.TakeStore.{Ghosts as StoreGhosts}
use Rattle.bw_disk.specs.declared.disk.Disk.{Ghosts as DiskGhosts}
use Rattle.bw_journal.specs.declared.journal.Journal.{Ghosts as JournalGhosts}
use Rattle.bw_folder.specs.TakeFolders.{takes_disk, takes_folder}
use Rattle.bw_folder.specs.JournalFolders.{journals_disk}
use Rattle.bw_folder.specs.declared.folder.FolderStore.{FolderStore}
use Rattle.bw_folder.specs.declared.journal.FolderJournal.{FolderJournal}
use Rattle.bw_recovery.specs.declared.finding.NameFault.{NameFault}
use Rattle.bw_session.specs.SeenServers.{session_kept}
use Rattle.bw_session.specs.TableChanges.{InsertsNow}
use Rattle.bw_session.specs.declared.kept_take.KeptTake.{KeptTake}
use Rattle.bw_session.specs.declared.server.Server.{Server}
use Rattle.bw_recovery.specs.Changes.{IsCrowded}
use Rattle.bw_kept.specs.FoundNames.{KeepsFolderBooks, KeepsDisks, KeepsSessions}
use Rattle.bw_kept.specs.FoundNames.{FindsBooks, FindsNewIn, PutsInBooks, RecoversBooks, WasRecovered}
use Rattle.bw_kept.specs.KeptFolders.{HoldsKept}
use Rattle.bw_journal.specs.Notes.{KeepsCommitted}
use Rattle.bw_kept.specs.DiskNotes.{StayCommitted}
use Rattle.bw_kept.specs.KeptTurns.{CountsMore, KeepsCounts, NoneMayLeave, HasPlace, IsWhy, DiskFails, DisksDiffer}
use Rattle.bw_kept.specs.declared.delay.Delay.{Delay}
use Rattle.bw_kept.specs.declared.delay.Delay.TheVariants as delay
use Rattle.bw_kept.specs.declared.finding.Found.{Found}
use Rattle.bw_kept.specs.declared.finding.Found.TheVariants as found
use Rattle.bw_kept.specs.declared.recovery.Recovered.{Recovered}
use Rattle.bw_kept.specs.declared.recovery.Recovered.TheVariants as recovered
use Rattle.bw_kept.proofs.FolderTurns.{no_place_of}
use Rattle.bw_kept.proofs.KeptChanges.{inserted}
use Rattle.bw_kept.proofs.KeptForms.{ready_kept}
use Rattle.bw_kept.proofs.FoundForms.{full_same, none_same, stay_after, stay_before}

module _ {X Y : Type 0} (S : StoreGhosts X) (J : JournalGhosts Y)
    (Fails : List ℕ → Server X Y S J → Server X Y S J → Type 0) (Differs : List ℕ → Server X Y S J → Type 0) where
  -- A take that was recovered comes into the table, or can't.

  pub insert_in : (take : KeptTake) (name : List ℕ) (old new : Server X Y S J) → take.name ≡ name →
      InsertsNow S J take old new → PutsInBooks S J Fails Differs old new name take found.Known
  insert_in take name old new named i = subst (λ (n : List ℕ). PutsInBooks S J Fails Differs old new n take found.Known) named own
    where
      own : PutsInBooks S J Fails Differs old new take.name take found.Known
      own honest honest_notes first book before h o = inserted S J old new first book h honest honest_notes take i o

  pub inserted_here : (take : KeptTake) (name : List ℕ) (old new : Server X Y S J) → take.name ≡ name →
      InsertsNow S J take old new → IsSome (session_kept new name)
  inserted_here take name old new named i =
      subst (λ (n : List ℕ). IsTrue (is_some (session_kept new n))) named i.here

  -- there was no memory for it
  pub closed_off : (take : KeptTake) (name : List ℕ) (old new : Server X Y S J) →
      (IsTrue (S.honest old.stores.store) → IsTrue (J.honest old.stores.journal) →
      (first : List ℕ → Option (List ℕ)) (book : Book) → HoldsKept S J first old book → session_kept old name ≡ None →
      HoldsKept S J first new book) → session_kept old name ≡ None →
      PutsInBooks S J Fails Differs old new name take (found.PutOff delay.NoMemory)
  closed_off take name old new closed none honest honest_notes first book before h o =
      (closed honest honest_notes first book h none, tt)

  -- there was no place
  pub closed_full : (take : KeptTake) (name : List ℕ) (old new : Server X Y S J) →
      (IsTrue (S.honest old.stores.store) → IsTrue (J.honest old.stores.journal) →
      (first : List ℕ → Option (List ℕ)) (book : Book) → HoldsKept S J first old book → session_kept old name ≡ None →
      HoldsKept S J first new book) → session_kept old name ≡ None →
      KeepsSessions (session_kept old) (session_kept new) →
      ((n : List ℕ) → J.notes new.stores.journal n ≡ J.notes old.stores.journal n) → NoneMayLeave S J old →
      HasPlace S J false old → PutsInBooks S J Fails Differs old new name take (found.PutOff delay.NoPlace)
  closed_full take name old new closed gone same notes none full honest honest_notes first book before h o =
      let k : HoldsKept S J first new book = closed honest honest_notes first book h gone in (
        k,
        (
          ap (λ (x : Option (List ℕ)). is_some x) (notes name ∙ o.notes_are),
          no_place_of S J k.now new k.table k.held (none_same S J old new same none)
              (full_same S J h.now k.now old new h.table k.table h.held k.held same ∙ full h.now h.table h.held),
        ),
      )

  -- A name that was recovered is found.

  -- of what was committed no entry is lost, from before room was made
  stays_in : (old mid there new : Server X Y S J) (first : List ℕ → Option (List ℕ)) (book : Book) →
      KeepsFolderBooks S J old mid → StayCommitted J mid.limit first book mid.stores.journal there.stores.journal →
      IsTrue (J.honest old.stores.journal) → KeepsCommitted (J.committed there.stores.journal) (J.committed new.stores.journal) →
      StayCommitted J old.limit first book old.stores.journal new.stores.journal
  stays_in old mid there new first book kept stay honest_notes more =
      stay_before S J old.limit mid.limit kept.counts.limit first book old.stores.journal mid.stores.journal
      new.stores.journal (kept.committed honest_notes)
      (stay_after S J mid.limit first book mid.stores.journal there.stores.journal new.stores.journal stay more)

  pub finds_new : (name : List ℕ) (old mid there new : Server X Y S J) (made : Recovered) (r : Found) →
      made ≡ recovered.New → KeepsFolderBooks S J old mid → session_kept mid name ≡ None → KeepsCounts S J mid there →
      RecoversBooks S J Fails Differs mid there name (Ok made) →
      (IsTrue (J.honest there.stores.journal) → KeepsCommitted (J.committed there.stores.journal)
      (J.committed new.stores.journal)) →
      FindsNewIn S J Fails Differs there new name r → FindsBooks S J Fails Differs old new name r
  finds_new name old mid there new made r is kept none counts books more finds honest honest_notes first book h =
      let honest' = kept.counts.honest ∙ honest in
      let honest_notes' = kept.counts.honest_notes ∙ honest_notes in
      let b = books honest' honest_notes' first book (kept.books honest honest_notes first book h) none in (
        finds (counts.honest ∙ honest') (counts.honest_notes ∙ honest_notes') first book old
            (subst (λ (m : Recovered). WasRecovered S J Fails Differs first mid there book name (Ok m)) is b.0),
        stays_in old mid there new first book kept b.1 honest_notes (more (counts.honest_notes ∙ honest_notes')),
      )

  -- it is new, and its files are closed
  pub new_off : (name : List ℕ) (old new : Server X Y S J) →
      (IsTrue (S.honest old.stores.store) → IsTrue (J.honest old.stores.journal) →
      (first : List ℕ → Option (List ℕ)) (book : Book) → HoldsKept S J first old book → session_kept old name ≡ None →
      HoldsKept S J first new book) → session_kept old name ≡ None →
      FindsNewIn S J Fails Differs old new name (found.PutOff delay.NoMemory)
  new_off name old new closed none honest honest_notes first book before h =
      (closed honest honest_notes first book (ready_kept S J first old book name h) none, tt)

  pub finds_out : (name : List ℕ) (old mid new : Server X Y S J) (made : Recovered) (cause : NameFault) →
      made ≡ recovered.LeftOut cause → KeepsFolderBooks S J old mid → session_kept mid name ≡ None →
      RecoversBooks S J Fails Differs mid new name (Ok made) →
      FindsBooks S J Fails Differs old new name (found.PutOff (delay.LeftOut cause))
  finds_out name old mid new made cause is kept none books honest honest_notes first book h =
      let x = books (kept.counts.honest ∙ honest) (kept.counts.honest_notes ∙ honest_notes) first book
      (kept.books honest honest_notes first book h) none in
      let b = subst (λ (m : Recovered). WasRecovered S J Fails Differs first mid new book name (Ok m)) is x.0 in
      ((b.0, b.1), stays_in old mid new new first book kept x.1 honest_notes (λ n. omega arith))

  pub finds_kept : (name : List ℕ) (old mid there new : Server X Y S J) (made : Recovered) (take : KeptTake) (r : Found) →
      made ≡ recovered.Kept take → KeepsFolderBooks S J old mid → session_kept mid name ≡ None → KeepsCounts S J mid there →
      RecoversBooks S J Fails Differs mid there name (Ok made) →
      (IsTrue (J.honest there.stores.journal) → KeepsCommitted (J.committed there.stores.journal)
      (J.committed new.stores.journal)) →
      PutsInBooks S J Fails Differs there new name take r → FindsBooks S J Fails Differs old new name r
  finds_kept name old mid there new made take r is kept none counts books more puts honest honest_notes first book h =
      let honest' = kept.counts.honest ∙ honest in
      let honest_notes' = kept.counts.honest_notes ∙ honest_notes in
      let x = books honest' honest_notes' first book (kept.books honest honest_notes first book h) none in
      let b = subst (λ (m : Recovered). WasRecovered S J Fails Differs first mid there book name (Ok m)) is x.0 in (
        puts (counts.honest ∙ honest') (counts.honest_notes ∙ honest_notes') first book old b.0 b.1,
        stays_in old mid there new first book kept x.1 honest_notes (more (counts.honest_notes ∙ honest_notes')),
      )

module _ {D E F H : Type 0} (G : DiskGhosts D F) (K : DiskGhosts E H) (S : StoreGhosts (FolderStore D F G))
    (J : JournalGhosts (FolderJournal E H K)) where
  -- a failed call is one since the notes were committed, or room was made, where none failed
  fails_since : (name : List ℕ) (old mid new : Server (FolderStore D F G) (FolderJournal E H K) S J) → KeepsDisks old mid →
      DiskFails G K name mid new → DiskFails G K name old new
  fails_since name old mid new disks fails = elim fails [
    | inl takes ↦ inl (subst (λ (d : D). Counts (G.failures d) (G.failures (takes_disk new.stores.store)) true) disks.takes takes)
    | inr (inl notes) ↦ inr (inl (subst (λ (n : ℕ). CountsMore n (K.failures (journals_disk new.stores.journal)))
        disks.notes notes))
    | inr (inr crowded) ↦ inr (inr (subst (λ (f : List ℕ). IsCrowded f name (G.contents (takes_disk old.stores.store)))
        disks.folder (subst (λ (d : D). IsCrowded (takes_folder mid.stores.store) name (G.contents d)) disks.takes crowded)))
  ]

  pub why_since : (name : List ℕ) (old mid new : Server (FolderStore D F G) (FolderJournal E H K) S J) (table : Book) (d : Delay) →
      KeepsDisks old mid → IsWhy S J (DiskFails G K) (DisksDiffer G K) name mid new table d →
      IsWhy S J (DiskFails G K) (DisksDiffer G K) name old new table d
  why_since name old mid new table delay.CallFailed disks why = fails_since name old mid new disks why
  why_since name old mid new table delay.NoMemory disks why = why
  why_since name old mid new table (delay.LeftOut cause) disks why = why
  why_since name old mid new table delay.TooManyNumbers disks why = why
  why_since name old mid new table delay.TwoFolders disks why = why
  why_since name old mid new table delay.NoPlace disks why = why

  pub finds_not : (name : List ℕ) (old mid new : Server (FolderStore D F G) (FolderJournal E H K) S J) (d : Delay) →
      KeepsFolderBooks S J old mid → KeepsDisks old mid → session_kept mid name ≡ None →
      RecoversBooks S J (DiskFails G K) (DisksDiffer G K) mid new name (Err d) →
      FindsBooks S J (DiskFails G K) (DisksDiffer G K) old new name (found.PutOff d)
  finds_not name old mid new d kept disks none books honest honest_notes first book h =
      let x = books (kept.counts.honest ∙ honest) (kept.counts.honest_notes ∙ honest_notes) first book
      (kept.books honest honest_notes first book h) none in
      let b = x.0 in (
        (b.0, why_since name old mid new b.0.table d disks b.1),
        stays_in S J (DiskFails G K) (DisksDiffer G K) old mid new new first book kept x.1 honest_notes (λ n. omega arith),
      )
