-- A commit changes nothing that is seen of a server but how much is committed.
use Rattle.std.proofs.Common.{◌≡◌, ◌⊎◌, inl, inr, ℕ, ◌≤◌, ◌<◌, ◌^◌, Bool, true, false, ◌||◌, not, List, Option, Some, None}
use Rattle.std.proofs.Common.{Result, Ok, Err, refl, sym, ◌∙◌, ap, subst, arith}
use Rattle.std.specs.Prelude.{IsTrue}
use Rattle.bw_model.specs.Book.{Book, log_of, is_known}
use Rattle.std.proofs.lemmas.Bool.{cases_lt}
use Rattle.bw_model.specs.Counts.{Counts, last_count}
use Rattle.bw_disk.specs.ReadFaults.{is_disk_fault}
use Rattle.bw_store.specs.declared.store.TakeStore.{Ghosts as StoreGhosts}
use Rattle.bw_disk.specs.declared.disk.Disk.{Ghosts as DiskGhosts}
use Rattle.bw_disk.specs.declared.reading.ReadFault.{ReadFault}
use Rattle.bw_disk.specs.declared.reading.ReadFault.TheVariants as read
use Rattle.bw_journal.specs.JournalHeaders.{Header, header_bytes}
use Rattle.bw_journal.specs.Notes.{IsPrefixOf, KeepsCommitted}
use Rattle.bw_journal.specs.declared.journal.Journal.{Ghosts as JournalGhosts}
use Rattle.bw_folder.specs.TakeFolders.{takes_disk, takes_folder}
use Rattle.bw_folder.specs.JournalFolders.{journals_disk}
use Rattle.bw_folder.specs.declared.folder.FolderStore.{FolderStore}
use Rattle.bw_folder.specs.declared.journal.FolderJournal.{FolderJournal}
use Rattle.bw_session.specs.NameNotes.{IsNoted}
use Rattle.bw_session.specs.NextNumbers.{failed_calls}
use Rattle.bw_session.specs.NotedNames.{NotesNames}
use Rattle.bw_session.specs.SeenServers.{session_kept, names_kept}
use Rattle.bw_session.specs.Servers.{HoldsIn, store_since}
use Rattle.bw_session.specs.Sessions.{part_of}
use Rattle.bw_session.specs.Tables.{session_in}
use Rattle.bw_session.specs.WriteOrders.{FileComesFirst, NextIsCarriedOut}
use Rattle.bw_session.specs.declared.session.Session.{Session}
use Rattle.bw_session.specs.declared.server.Server.{Server}
use Rattle.bw_session.proofs.JournalForms.{OrderIn}
use Rattle.bw_kept.specs.DiskNotes.{StayCommitted}
use Rattle.bw_kept.specs.FoundNames.{KeepsDisks, FindsBooks, WasFound}
use Rattle.bw_kept.specs.KeptCommits.{commit_after}
use Rattle.bw_kept.specs.KeptFolders.{HoldsKept}
use Rattle.bw_kept.specs.KeptTurns.{DiskFails, DisksDiffer, IsWhy, KeepsCounts, OnlyCommits}
use Rattle.bw_kept.specs.Visits.{CommitsJournals, delay_by}
use Rattle.bw_kept.specs.RecoverySteps.{fault_of_read}
use Rattle.bw_kept.specs.declared.delay.Delay.{Delay}
use Rattle.bw_kept.specs.declared.finding.Found.{Found}
use Rattle.bw_kept.specs.declared.finding.Found.TheVariants as found
use Rattle.bw_kept.proofs.FolderGhosts.{folder_store, folder_journal}
use Rattle.bw_kept.proofs.FoundForms.{committed_then, holds_same, stay_before, stay_keeps}
use Rattle.bw_kept.proofs.FoundBooks.{why_since}
use Rattle.bw_kept.proofs.KeptForms.{outside_as}

-- where header and notes of each name are the same, so is what is known of them
notes_alike : (asleep : List ℕ → Bool) (header header' : List ℕ → Header) (notes notes' first : List ℕ → Option (List ℕ))
    (sessions sessions' : List ℕ → Option Session) (book : Book) → ((n : List ℕ) → sessions' n ≡ sessions n) →
    ((n : List ℕ) → header' n ≡ header n) → ((n : List ℕ) → notes' n ≡ notes n) →
    NotesNames asleep header notes first sessions book → NotesNames asleep header' notes' first sessions' book
notes_alike asleep header header' notes notes' first sessions sessions' book same heads noted h = record {
  known = λ n s e.
      subst (λ (x : Header). IsNoted x n (log_of book n) s.progress.noted (notes' n)) (sym (heads n))
      (subst (λ (o : Option (List ℕ)). IsNoted (header n) n (log_of book n) s.progress.noted o) (sym (noted n))
      (h.known n s (sym (same n) ∙ e)));
  unknown = λ n gone e.
      subst (λ (x : Header). IsPrefixOf (header_bytes n x) (notes' n)) (sym (heads n))
      (subst (λ (o : Option (List ℕ)). IsPrefixOf (header_bytes n (header n)) o) (sym (noted n))
      (h.unknown n (sym (same n) ∙ gone) e));
  existed = λ n e. ap (λ (x : Header). x.existed) (heads n) ∙ h.existed n e;
}

order_alike : (header header' : List ℕ → Header) (notes notes' first file : List ℕ → Option (List ℕ))
    (sessions sessions' : List ℕ → Option Session) → ((n : List ℕ) → sessions' n ≡ sessions n) →
    ((n : List ℕ) → header' n ≡ header n) → ((n : List ℕ) → notes' n ≡ notes n) →
    OrderIn header notes first file sessions → OrderIn header' notes' first file sessions'
order_alike header header' notes notes' first file sessions sessions' same heads noted o = λ n x e.
    subst (λ (z : Header). FileComesFirst z (first n) n x.progress.noted (NextIsCarriedOut (part_of x)) (notes' n) (file n))
    (sym (heads n))
    (subst (λ (z : Option (List ℕ)). FileComesFirst (header n) (first n) n x.progress.noted (NextIsCarriedOut (part_of x))
    z (file n)) (sym (noted n)) (o n x (sym (same n) ∙ e)))

module _ {X Y : Type 0} (S : StoreGhosts X) (J : JournalGhosts Y) where
  pub only_none : (s : Server X Y S J) → OnlyCommits S J s s
  only_none s = record {
    limit = refl;
    sessions = λ n. refl;
    names = refl;
    store = refl;
    honest = refl;
    failures = refl;
    folder = refl;
    headers = λ honest n. refl;
    notes = λ honest n. refl;
    committed = λ honest n. omega arith;
  }

  pub only_same : (old new : Server X Y S J) → new ≡ old → OnlyCommits S J old new
  only_same old new e = subst (OnlyCommits S J old) (sym e) (only_none old)

  pub only_then : (old mid new : Server X Y S J) → OnlyCommits S J old mid → OnlyCommits S J mid new →
      OnlyCommits S J old new
  only_then old mid new a b = record {
    limit = b.limit ∙ a.limit;
    sessions = λ n. b.sessions n ∙ a.sessions n;
    names = b.names ∙ a.names;
    store = b.store ∙ a.store;
    honest = b.honest ∙ a.honest;
    failures = b.failures ∙ a.failures;
    folder = b.folder ∙ a.folder;
    headers = λ honest n. b.headers (a.honest ∙ honest) n ∙ a.headers honest n;
    notes = λ honest n. b.notes (a.honest ∙ honest) n ∙ a.notes honest n;
    committed = λ honest. committed_then S J old.stores.journal mid.stores.journal new.stores.journal (a.committed honest)
        (b.committed (a.honest ∙ honest));
  }

  pub counts_only : (old new : Server X Y S J) → OnlyCommits S J old new → KeepsCounts S J old new
  counts_only old new o = record {
    limit = o.limit;
    honest = ap S.honest o.store;
    honest_notes = o.honest;
    failures = ap (λ (x : X). failed_calls (S.failures x) (J.failures new.stores.journal)) o.store
        ∙ ap (λ (n : ℕ). failed_calls (S.failures old.stores.store) n) o.failures;
    store_folder = ap S.folder o.store;
    journal_folder = o.folder;
  }

  pub held_committed : (old new : Server X Y S J) → OnlyCommits S J old new → IsTrue (J.honest old.stores.journal) →
      (first : List ℕ → Option (List ℕ)) (book : Book) → HoldsKept S J first old book → HoldsKept S J first new book
  held_committed old new o honest first book h = record {
    table = h.table;
    now = h.now;
    held = subst (λ (l : ℕ). HoldsIn l (store_since S h.now new.stores.store) (session_in new.sessions) h.table)
        (sym o.limit)
        (subst (λ (x : X). HoldsIn old.limit (store_since S h.now x) (session_in new.sessions) h.table) (sym o.store)
        (holds_same old.limit (store_since S h.now old.stores.store) (session_in old.sessions) (session_in new.sessions)
        h.table o.sessions h.held));
    noted = notes_alike (λ n. not (is_known h.table n || false)) (J.header old.stores.journal) (J.header new.stores.journal)
        (J.notes old.stores.journal) (J.notes new.stores.journal) h.now (session_in old.sessions) (session_in new.sessions)
        h.table o.sessions (o.headers honest) (o.notes honest) h.noted;
    ordered = subst (λ (x : X). OrderIn (J.header new.stores.journal) (J.notes new.stores.journal) h.now (S.contents x)
        (session_in new.sessions)) (sym o.store)
        (order_alike (J.header old.stores.journal) (J.header new.stores.journal) (J.notes old.stores.journal)
        (J.notes new.stores.journal) h.now (S.contents old.stores.store) (session_in old.sessions)
        (session_in new.sessions) o.sessions (o.headers honest) (o.notes honest) h.ordered);
    small = subst (λ (v : ℕ). v < 2 ^ 32) (sym o.limit) h.small;
    folder = o.folder ∙ h.folder ∙ sym (ap S.folder o.store);
    limits = λ n. ap (λ (x : Header). x.limit) (o.headers honest n) ∙ h.limits n ∙ sym o.limit;
    each = h.each;
    inside = h.inside;
    outside = λ n named e.
        outside_as old.limit new.limit (first n) n (log_of book n) (log_of book n) (J.committed old.stores.journal n)
        (J.committed new.stores.journal n) (J.notes old.stores.journal n) (J.notes new.stores.journal n)
        (S.contents old.stores.store n) (S.contents new.stores.store n) o.limit refl (o.committed honest n)
        (o.notes honest n) (ap (λ (x : X). S.contents x n) o.store) (h.outside n named e);
    ready = h.ready;
  }

  -- what a commit leaves before a name is found
  finds_stay : (limit limit' : ℕ) → limit' ≡ limit → (first : List ℕ → Option (List ℕ)) (book : Book)
      (old mid new : Server X Y S J) →
      KeepsCommitted (J.committed old.stores.journal) (J.committed mid.stores.journal) →
      StayCommitted J limit' first book mid.stores.journal new.stores.journal →
      StayCommitted J limit first book old.stores.journal new.stores.journal
  finds_stay limit limit' same first book old mid new a b =
      stay_before S J limit limit' same first book old.stores.journal mid.stores.journal new.stores.journal a b

module _ {D E F H : Type 0} (G : DiskGhosts D F) (K : DiskGhosts E H) where
  -- what a commit of the journals is to a server
  pub commits_only : (result : Result (Unit {0}) ReadFault)
      (old new : Server (FolderStore D F G) (FolderJournal E H K) (folder_store G) (folder_journal K)) →
      CommitsJournals result old.stores.store old.stores.journal new.stores.store new.stores.journal →
      ((name : List ℕ) → session_kept new name ≡ session_kept old name) → names_kept new ≡ names_kept old →
      new.limit ≡ old.limit → OnlyCommits (folder_store G) (folder_journal K) old new
  commits_only result old new c sessions names limit =
      let k = c.commits.kept in
      record {
        limit = limit;
        sessions = sessions;
        names = names;
        store = c.store_is;
        honest = k.honest;
        failures = k.failures;
        folder = k.settings.2;
        headers = k.headers;
        notes = k.noted;
        committed = k.committed;
      }

  -- no call failed, if it succeeded
  disks_committed : (old new : Server (FolderStore D F G) (FolderJournal E H K) (folder_store G) (folder_journal K)) →
      CommitsJournals (Ok tt) old.stores.store old.stores.journal new.stores.store new.stores.journal → KeepsDisks old new
  disks_committed old new c = record {
    takes = ap takes_disk c.store_is;
    notes = c.failures.quiet refl;
    folder = ap takes_folder c.store_is;
  }

  -- a name is found after a commit
  pub finds_since : (name : List ℕ) (result : Result (Unit {0}) ReadFault) (r : Found)
      (old mid new : Server (FolderStore D F G) (FolderJournal E H K) (folder_store G) (folder_journal K)) →
      result ≡ Ok tt → OnlyCommits (folder_store G) (folder_journal K) old mid →
      CommitsJournals result old.stores.store old.stores.journal mid.stores.store mid.stores.journal →
      FindsBooks (folder_store G) (folder_journal K) (DiskFails G K) (DisksDiffer G K) mid new name r →
      FindsBooks (folder_store G) (folder_journal K) (DiskFails G K) (DisksDiffer G K) old new name r
  finds_since name result r old mid new is o c finds honest honest_notes first book h =
      let S : StoreGhosts (FolderStore D F G) = folder_store G in
      let J : JournalGhosts (FolderJournal E H K) = folder_journal K in
      let disks : KeepsDisks old mid =
      disks_committed old mid (subst (λ (x : Result (Unit {0}) ReadFault). CommitsJournals x old.stores.store
      old.stores.journal mid.stores.store mid.stores.journal) is c) in
      let x = finds (ap (λ (s : FolderStore D F G). S.honest s) o.store ∙ honest) (o.honest ∙ honest_notes) first book
      (held_committed S J old mid o honest_notes first book h) in (
        was_since r x.0 disks,
        finds_stay S J old.limit mid.limit o.limit first book old mid new (o.committed honest_notes) x.1,
      )
    where
      was_since : (y : Found) → WasFound (folder_store G) (folder_journal K) (DiskFails G K) (DisksDiffer G K) first mid new
          book name y → KeepsDisks old mid →
          WasFound (folder_store G) (folder_journal K) (DiskFails G K) (DisksDiffer G K) first old new book name y
      was_since found.Known w disks = w
      was_since found.New w disks = w
      was_since (found.PutOff d) w disks =
          (w.0, why_since G K (folder_store G) (folder_journal K) name old mid new w.0.table d disks w.1)

  -- what is noted can't be committed: the frame is put off
  pub finds_unkept : (name : List ℕ) (fault : ReadFault) (delay : Delay)
      (old new : Server (FolderStore D F G) (FolderJournal E H K) (folder_store G) (folder_journal K)) →
      delay ≡ delay_by (fault_of_read fault) → OnlyCommits (folder_store G) (folder_journal K) old new →
      CommitsJournals (Err fault) old.stores.store old.stores.journal new.stores.store new.stores.journal →
      FindsBooks (folder_store G) (folder_journal K) (DiskFails G K) (DisksDiffer G K) old new name (found.PutOff delay)
  finds_unkept name fault delay old new is o c honest honest_notes first book h =
      let S : StoreGhosts (FolderStore D F G) = folder_store G in
      let J : JournalGhosts (FolderJournal E H K) = folder_journal K in
      let held : HoldsKept S J first new book = held_committed S J old new o honest_notes first book h in (
        (
          held,
          subst (IsWhy S J (DiskFails G K) (DisksDiffer G K) name old new held.table) (sym is) (why fault c.failures held.table),
        ),
        stay_keeps S J old.limit first book old.stores.journal new.stores.journal (o.committed honest_notes),
      )
    where
      why : (f : ReadFault) → Counts (K.failures (journals_disk old.stores.journal)) (K.failures (journals_disk new.stores.journal))
          (is_disk_fault {T = Unit {0}} (Err f)) → (table : Book) →
          IsWhy (folder_store G) (folder_journal K) (DiskFails G K) (DisksDiffer G K) name old new table
          (delay_by (fault_of_read f))
      why read.Disk counts table =
          inr (inl (K.failures (journals_disk new.stores.journal), counts, omega arith))
      why read.Memory counts table = tt

-- failures are never fewer
pub counts_more : (before after : ℕ) (happens : Bool) → Counts before after happens → before ≤ after
counts_more before after happens c = go (cases_lt before last_count) happens refl
  where
    go : (before < last_count) ⊎ (last_count ≤ before) → (v : Bool) → happens ≡ v → before ≤ after
    go (inr over) v e = let same = c.stays over in omega (arith, same)
    go (inl below) true e = let more = c.rises e below in omega (arith, more)
    go (inl below) false e = let same = c.quiet e in omega (arith, same)

-- a commit succeeds only if nothing is pending
pub none_waits : (o : Option (List ℕ)) (pending : Bool) → commit_after o pending ≡ Ok tt → pending ≡ false
none_waits (Some name) pending e = absurd cc
none_waits None true e = absurd cc
none_waits None false e = refl
