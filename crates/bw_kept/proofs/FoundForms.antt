-- Servers that make room and recover names before a frame is answered.
use Rattle.std.proofs.Common.{◌≡◌, ◌⊎◌, inl, inr, ℕ, ◌<◌, ◌^◌, Bool, true, false, ◌||◌, not, List, Option, Some, None}
use Rattle.std.proofs.Common.{refl, sym, ◌∙◌, ap, subst, arith}
use Rattle.std.specs.Prelude.{IsTrue, IsSome, is_some, option_map, nat_le}
use Rattle.std.specs.List.{Contains}
use Rattle.std.specs.Option.{option_map_or}
use Rattle.std.specs.Str.{bytes_eq}
use Rattle.bw_model.specs.Book.{Book, log_of, is_known}
use Rattle.bw_model.specs.Holds.{Store, Kept}
use Rattle.bw_model.specs.Turn.{is_full, most_takes}
use Rattle.bw_model.proofs.BookLaws.{names_report_the_length}
use Rattle.bw_model.proofs.BookLemmas.{same_name}
use Rattle.bw_store.specs.declared.store.TakeStore.{Ghosts as StoreGhosts}
use Rattle.bw_disk.specs.declared.disk.Disk.{Ghosts as DiskGhosts}
use Rattle.bw_journal.specs.JournalHeaders.{Header}
use Rattle.bw_journal.specs.Notes.{KeepsCommitted}
use Rattle.bw_journal.specs.declared.journal.Journal.{Ghosts as JournalGhosts}
use Rattle.bw_folder.specs.TakeFolders.{takes_disk, takes_folder}
use Rattle.bw_folder.specs.Commits.{IsAllCommitted}
use Rattle.bw_folder.specs.JournalFolders.{journals_disk, has_pending}
use Rattle.bw_folder.specs.declared.folder.FolderStore.{FolderStore}
use Rattle.bw_folder.specs.declared.journal.FolderJournal.{FolderJournal}
use Rattle.bw_session.specs.Books.{HoldsBook}
use Rattle.bw_session.specs.KnownNames.{ListsNames, is_known_in}
use Rattle.bw_session.specs.NextNumbers.{failed_calls}
use Rattle.bw_session.specs.NotedNames.{NotesNames}
use Rattle.bw_session.specs.SeenServers.{session_kept}
use Rattle.bw_session.specs.Servers.{HoldsIn, kept_by, store_since}
use Rattle.bw_session.specs.TableChanges.{is_forgettable, is_forgettable_in, forgettable_kept, KeepsTable, ForgetsNow}
use Rattle.bw_session.specs.TableChanges.{ForgetsNameIf}
use Rattle.bw_session.specs.Tables.{session_in}
use Rattle.bw_session.specs.declared.session.Session.{Session}
use Rattle.bw_session.specs.declared.server.Server.{Server}
use Rattle.bw_session.proofs.JournalForms.{OrderIn}
use Rattle.bw_kept.specs.FoundNames.{KeepsFolderBooks, KeepsDisks, KeepsPendingNotes, KeepsSessions, StaysOutside, has_left, is_declined}
use Rattle.bw_kept.specs.FoundNames.{OnlyForgets}
use Rattle.bw_kept.specs.KeptFolders.{HoldsKept}
use Rattle.bw_kept.specs.KeptTurns.{KeepsCounts, NoneMayLeave, HasPlace}
use Rattle.bw_kept.specs.declared.room.Leaving.{Leaving}
use Rattle.bw_kept.specs.declared.room.Leaving.TheVariants as leaving
use Rattle.bw_kept.proofs.KeptChanges.{forgotten}
use Rattle.bw_recovery.specs.LeftNames.{header_beside}
use Rattle.bw_kept.specs.DiskNotes.{IsCommittedName, StayCommitted}
use Rattle.bw_kept.proofs.DiskForms.{less_then, no_less, stays_after, stays_before}
use Rattle.bw_kept.proofs.KeptForms.{never, outside_as}

-- the same sessions hold the same book
pub holds_same : (limit : ℕ) (store : Store) (sessions sessions' : List ℕ → Option Session) (book : Book) →
    ((n : List ℕ) → sessions' n ≡ sessions n) → HoldsIn limit store sessions book → HoldsIn limit store sessions' book
holds_same limit store sessions sessions' book same h = record {
  holds = record {
    is_book = h.holds.is_book;
    names = λ n. h.holds.names n ∙ sym (ap (λ (o : Option Session). is_some (option_map kept_by o)) (same n));
    each = λ n k e. h.holds.each n k (back n k e);
    others = h.holds.others;
    theirs = λ honest n k e. h.holds.theirs honest n k (back n k e);
    files = λ honest n k e. h.holds.files honest n k (back n k e);
  };
  ahead = λ honest n s e. h.ahead honest n s (sym (same n) ∙ e);
}
  where
    back : (n : List ℕ) (k : Kept) → option_map kept_by (sessions' n) ≡ Some k → option_map kept_by (sessions n) ≡ Some k
    back n k e = sym (ap (option_map kept_by) (same n)) ∙ e

-- and note it
notes_same : (asleep : List ℕ → Bool) (header : List ℕ → Header) (notes first : List ℕ → Option (List ℕ))
    (sessions sessions' : List ℕ → Option Session) (book : Book) → ((n : List ℕ) → sessions' n ≡ sessions n) →
    NotesNames asleep header notes first sessions book → NotesNames asleep header notes first sessions' book
notes_same asleep header notes first sessions sessions' book same h = record {
  known = λ n s e. h.known n s (sym (same n) ∙ e);
  unknown = λ n gone e. h.unknown n (sym (same n) ∙ gone) e;
  existed = h.existed;
}

module _ {X Y : Type 0} (S : StoreGhosts X) (J : JournalGhosts Y) where
  -- Counts and books that stay, one after the other.

  pub counts_none : (s : Server X Y S J) → KeepsCounts S J s s
  counts_none s = record {
    limit = refl;
    honest = refl;
    honest_notes = refl;
    failures = refl;
    store_folder = refl;
    journal_folder = refl;
  }

  pub counts_then : (old mid new : Server X Y S J) → KeepsCounts S J old mid → KeepsCounts S J mid new →
      KeepsCounts S J old new
  counts_then old mid new a b = record {
    limit = b.limit ∙ a.limit;
    honest = b.honest ∙ a.honest;
    honest_notes = b.honest_notes ∙ a.honest_notes;
    failures = b.failures ∙ a.failures;
    store_folder = b.store_folder ∙ a.store_folder;
    journal_folder = b.journal_folder ∙ a.journal_folder;
  }

  -- over the same store and journal
  pub counts_same : (old new : Server X Y S J) → new.stores.store ≡ old.stores.store →
      new.stores.journal ≡ old.stores.journal → new.limit ≡ old.limit → KeepsCounts S J old new
  counts_same old new store journal limit = record {
    limit = limit;
    honest = ap S.honest store;
    honest_notes = ap J.honest journal;
    failures = ap (λ (x : X). failed_calls (S.failures x) (J.failures new.stores.journal)) store
        ∙ ap (λ (y : Y). failed_calls (S.failures old.stores.store) (J.failures y)) journal;
    store_folder = ap S.folder store;
    journal_folder = ap J.folder journal;
  }

  -- no fewer bytes are committed

  pub committed_then : (old mid new : Y) → KeepsCommitted (J.committed old) (J.committed mid) →
      KeepsCommitted (J.committed mid) (J.committed new) → KeepsCommitted (J.committed old) (J.committed new)
  committed_then old mid new a b n = less_then (J.committed old n) (J.committed mid n) (J.committed new n) (a n) (b n)

  pub committed_same : (old new : Y) → new ≡ old → KeepsCommitted (J.committed old) (J.committed new)
  committed_same old new same n = no_less (J.committed old n) (J.committed new n) (ap (λ (y : Y). J.committed y n) same)

  -- more is committed before what keeps entries, or after it

  pub stay_after : (limit : ℕ) (first : List ℕ → Option (List ℕ)) (book : Book) (old mid new : Y) →
      StayCommitted J limit first book old mid → KeepsCommitted (J.committed mid) (J.committed new) →
      StayCommitted J limit first book old new
  stay_after limit first book old mid new a b n =
      stays_after (header_beside limit (first n)) n (log_of book n) (J.committed old n) (J.committed mid n) (J.committed new n) (a n) (b n)

  pub stay_before : (limit limit' : ℕ) → limit' ≡ limit → (first : List ℕ → Option (List ℕ)) (book : Book)
      (old mid new : Y) → KeepsCommitted (J.committed old) (J.committed mid) →
      StayCommitted J limit' first book mid new → StayCommitted J limit first book old new
  stay_before limit limit' same first book old mid new a b n =
      stays_before (header_beside limit (first n)) n (log_of book n) (J.committed old n) (J.committed mid n) (J.committed new n) (a n)
      (subst (λ (l : ℕ). StayCommitted J l first book mid new) same b n)

  pub stay_keeps : (limit : ℕ) (first : List ℕ → Option (List ℕ)) (book : Book) (old new : Y) →
      KeepsCommitted (J.committed old) (J.committed new) → StayCommitted J limit first book old new
  stay_keeps limit first book old new a n = inl (a n)

  pub keeps_none : (s : Server X Y S J) → KeepsFolderBooks S J s s
  keeps_none s = record {
    counts = counts_none s;
    books = λ honest honest_notes first book h. h;
    committed = λ honest_notes n. omega arith;
  }

  pub keeps_then : (old mid new : Server X Y S J) → KeepsFolderBooks S J old mid → KeepsFolderBooks S J mid new →
      KeepsFolderBooks S J old new
  keeps_then old mid new a b = record {
    counts = counts_then old mid new a.counts b.counts;
    books = λ honest honest_notes first book h.
        b.books (a.counts.honest ∙ honest) (a.counts.honest_notes ∙ honest_notes) first book
        (a.books honest honest_notes first book h);
    committed = λ honest_notes. committed_then old.stores.journal mid.stores.journal new.stores.journal
        (a.committed honest_notes) (b.committed (a.counts.honest_notes ∙ honest_notes));
  }

  -- a table that was laid out anew
  pub table_kept : (old new : Server X Y S J) → KeepsTable S J old new → (first : List ℕ → Option (List ℕ)) (book : Book) →
      HoldsKept S J first old book → HoldsKept S J first new book
  table_kept old new k first book h = record {
    table = h.table;
    now = h.now;
    held = subst (λ (l : ℕ). HoldsIn l (store_since S h.now new.stores.store) (session_in new.sessions) h.table)
        (sym k.limit)
        (subst (λ (x : X). HoldsIn old.limit (store_since S h.now x) (session_in new.sessions) h.table) (sym k.stores.0)
        (holds_same old.limit (store_since S h.now old.stores.store) (session_in old.sessions) (session_in new.sessions)
        h.table k.sessions h.held));
    noted = subst (λ (y : Y). NotesNames (λ n. not (is_known h.table n || false)) (J.header y) (J.notes y) h.now
        (session_in new.sessions) h.table) (sym k.stores.1)
        (notes_same (λ n. not (is_known h.table n || false)) (J.header old.stores.journal) (J.notes old.stores.journal)
        h.now (session_in old.sessions) (session_in new.sessions) h.table k.sessions h.noted);
    ordered = subst (λ (x : X). OrderIn (J.header new.stores.journal) (J.notes new.stores.journal) h.now (S.contents x)
        (session_in new.sessions)) (sym k.stores.0)
        (subst (λ (y : Y). OrderIn (J.header y) (J.notes y) h.now (S.contents old.stores.store) (session_in new.sessions))
        (sym k.stores.1) (λ n x e. h.ordered n x (sym (k.sessions n) ∙ e)));
    small = subst (λ (v : ℕ). v < 2 ^ 32) (sym k.limit) h.small;
    folder = ap J.folder k.stores.1 ∙ h.folder ∙ sym (ap S.folder k.stores.0);
    limits = λ n. ap (λ (y : Y). (J.header y n).limit) k.stores.1 ∙ h.limits n ∙ sym k.limit;
    each = h.each;
    inside = h.inside;
    outside = λ n named e.
        outside_as old.limit new.limit (first n) n (log_of book n) (log_of book n) (J.committed old.stores.journal n)
        (J.committed new.stores.journal n) (J.notes old.stores.journal n)
        (J.notes new.stores.journal n) (S.contents old.stores.store n) (S.contents new.stores.store n) k.limit refl
        (no_less (J.committed old.stores.journal n) (J.committed new.stores.journal n)
        (ap (λ (y : Y). J.committed y n) k.stores.1))
        (ap (λ (y : Y). J.notes y n) k.stores.1) (ap (λ (x : X). S.contents x n) k.stores.0) (h.outside n named e);
    ready = h.ready;
  }

  -- it was to forget a name, and couldn't
  pub keeps_table : (old new : Server X Y S J) → KeepsTable S J old new → KeepsFolderBooks S J old new
  keeps_table old new k = record {
    counts = counts_same old new k.stores.0 k.stores.1 k.limit;
    books = λ honest honest_notes first book h. table_kept old new k first book h;
    committed = λ honest_notes. committed_same old.stores.journal new.stores.journal k.stores.1;
  }

  -- a name was forgotten, and then its files were closed
  pub keeps_forgotten : (name : List ℕ) (old mid new : Server X Y S J) → ForgetsNow S J name old mid →
      IsCommittedName J name old.stores.journal → KeepsCounts S J mid new →
      (IsTrue (J.honest mid.stores.journal) → KeepsCommitted (J.committed mid.stores.journal)
      (J.committed new.stores.journal)) →
      (IsTrue (S.honest mid.stores.store) → IsTrue (J.honest mid.stores.journal) →
      (first : List ℕ → Option (List ℕ)) (book : Book) → HoldsKept S J first mid book → session_kept mid name ≡ None →
      HoldsKept S J first new book) → KeepsFolderBooks S J old new
  keeps_forgotten name old mid new f all counts more closed =
      let same = counts_same old mid f.others.store f.journal f.others.limit in
      record {
        counts = counts_then old mid new same counts;
        books = λ honest honest_notes first book h.
            closed (same.honest ∙ honest) (same.honest_notes ∙ honest_notes) first book
            (forgotten S J old mid first book h honest honest_notes name f all) f.gone;
        committed = λ honest_notes. committed_then old.stores.journal mid.stores.journal new.stores.journal
            (committed_same old.stores.journal mid.stores.journal f.journal) (more (same.honest_notes ∙ honest_notes));
      }

  pub outside_then : (old mid new : Server X Y S J) → StaysOutside S J old mid → StaysOutside S J mid new →
      StaysOutside S J old new
  outside_then old mid new a b name e = b name (a name e)

  -- a name that is outside stays so where another is forgotten
  pub outside_forgotten : (name : List ℕ) (old mid : Server X Y S J) → ForgetsNow S J name old mid → StaysOutside S J old mid
  outside_forgotten name old mid f n e = go (bytes_eq name n) refl
    where
      go : (v : Bool) → bytes_eq name n ≡ v → session_kept mid n ≡ None
      go true same = subst (λ (x : List ℕ). session_kept mid x ≡ None) (same_name name n same) f.gone
      go false apart = f.others.others n apart ∙ e

  pub outside_same : (old new : Server X Y S J) → KeepsSessions (session_kept old) (session_kept new) →
      StaysOutside S J old new
  outside_same old new same n e = same n ∙ e

  -- where the same is kept of a name, it may be forgotten as before
  pub forgettable_same : (old new : Server X Y S J) (name : List ℕ) → session_kept new name ≡ session_kept old name →
      forgettable_kept new name ≡ forgettable_kept old name
  forgettable_same old new name same = ap (λ (o : Option Session). option_map_or is_forgettable o false) same

  pub none_same : (old new : Server X Y S J) → KeepsSessions (session_kept old) (session_kept new) →
      NoneMayLeave S J old → NoneMayLeave S J new
  none_same old new same none name = forgettable_same old new name (same name) ∙ none name

  -- none of the names of a table may leave it, if none of those that are listed may
  pub none_of_all : (old new : Server X Y S J) (names : List (List ℕ)) → ListsNames (is_known_in old.sessions) names →
      KeepsSessions (session_kept old) (session_kept new) →
      ((name : List ℕ) → Contains names name → forgettable_kept old name ≡ false) → NoneMayLeave S J new
  none_of_all old new names lists same none name =
      forgettable_same old new name (same name) ∙ go (session_in old.sessions name) refl
    where
      go : (o : Option Session) → session_in old.sessions name ≡ o → is_forgettable_in old.sessions name ≡ false
      go None e = ap (λ (x : Option Session). option_map_or is_forgettable x false) e
      go (Some s) e =
          none name ((lists.each name).0 (ap (λ (x : Option Session). is_some (option_map kept_by x)) e))

  -- a name was forgotten, or nothing has changed
  pub forgot_now : (b : Bool) (name : List ℕ) (old new : Server X Y S J) → b ≡ true → ForgetsNameIf S J b name old new →
      ForgetsNow S J name old new
  forgot_now true name old new e f = f
  forgot_now false name old new e f = never e

  pub forgot_not : (b : Bool) (name : List ℕ) (old new : Server X Y S J) → b ≡ false → ForgetsNameIf S J b name old new →
      new ≡ old
  forgot_not true name old new e f = never (sym e)
  forgot_not false name old new e f = f

  pub outside_none : (s : Server X Y S J) → StaysOutside S J s s
  outside_none s name e = e

module _ {D E F H : Type 0} {G : DiskGhosts D F} {K : DiskGhosts E H} {S : StoreGhosts (FolderStore D F G)}
    {J : JournalGhosts (FolderJournal E H K)} where
  -- no call of a disk is made

  pub disks_none : (s : Server (FolderStore D F G) (FolderJournal E H K) S J) → KeepsDisks s s
  disks_none s = record { takes = refl; notes = refl; folder = refl }

  -- and notes are pending as before

  pub pending_same : (old new : Server (FolderStore D F G) (FolderJournal E H K) S J) →
      new.stores.journal ≡ old.stores.journal → KeepsPendingNotes old new
  pending_same old new journal n = ap (λ (j : FolderJournal E H K). has_pending j n) journal

  pub pending_then : (old mid new : Server (FolderStore D F G) (FolderJournal E H K) S J) → KeepsPendingNotes old mid →
      KeepsPendingNotes mid new → KeepsPendingNotes old new
  pending_then old mid new a b n = b n ∙ a n

  pub none_pending : (old new : Server (FolderStore D F G) (FolderJournal E H K) S J) → KeepsPendingNotes old new →
      IsAllCommitted old.stores.journal → IsAllCommitted new.stores.journal
  none_pending old new same none n = same n ∙ none n

  pub disks_then : (old mid new : Server (FolderStore D F G) (FolderJournal E H K) S J) → KeepsDisks old mid →
      KeepsDisks mid new → KeepsDisks old new
  disks_then old mid new a b = record {
    takes = b.takes ∙ a.takes;
    notes = b.notes ∙ a.notes;
    folder = b.folder ∙ a.folder;
  }

  pub disks_same : (old new : Server (FolderStore D F G) (FolderJournal E H K) S J) →
      new.stores.store ≡ old.stores.store → new.stores.journal ≡ old.stores.journal → KeepsDisks old new
  disks_same old new store journal = record {
    takes = ap takes_disk store;
    notes = ap (λ (j : FolderJournal E H K). K.failures (journals_disk j)) journal;
    folder = ap takes_folder store;
  }

  pub disks_forgotten : (old mid new : Server (FolderStore D F G) (FolderJournal E H K) S J) →
      mid.stores.store ≡ old.stores.store → mid.stores.journal ≡ old.stores.journal → KeepsDisks mid new →
      KeepsDisks old new
  disks_forgotten old mid new store journal b = disks_then old mid new (disks_same old mid store journal) b

  -- at most a name is forgotten

  pub forgets_none : (it : Leaving) (old new : Server (FolderStore D F G) (FolderJournal E H K) S J) → new ≡ old →
      OnlyForgets it old new
  forgets_none it old new e = subst (OnlyForgets it old) (sym e) (record {
    kept = keeps_none S J old;
    disks = disks_none old;
    pending = λ n. refl;
    outside = outside_none S J old;
    same = λ stays name. refl;
  })

  -- it was to be forgotten, and couldn't
  pub forgets_table : (it : Leaving) (old new : Server (FolderStore D F G) (FolderJournal E H K) S J) →
      KeepsTable S J old new → OnlyForgets it old new
  forgets_table it old new k = record {
    kept = keeps_table S J old new k;
    disks = disks_same old new k.stores.0 k.stores.1;
    pending = pending_same old new k.stores.1;
    outside = outside_same S J old new k.sessions;
    same = λ stays. k.sessions;
  }

  -- where none has left, it may be said otherwise
  pub forgets_still : (it now : Leaving) (old new : Server (FolderStore D F G) (FolderJournal E H K) S J) →
      has_left it ≡ false → OnlyForgets it old new → OnlyForgets now old new
  forgets_still it now old new stays f = record {
    kept = f.kept;
    disks = f.disks;
    pending = f.pending;
    outside = f.outside;
    same = λ e. f.same stays;
  }

  -- none had left before
  pub forgets_then : (it : Leaving) (old mid new : Server (FolderStore D F G) (FolderJournal E H K) S J) →
      OnlyForgets leaving.NoneMay old mid → OnlyForgets it mid new → OnlyForgets it old new
  forgets_then it old mid new a b = record {
    kept = keeps_then S J old mid new a.kept b.kept;
    disks = disks_then old mid new a.disks b.disks;
    pending = pending_then old mid new a.pending b.pending;
    outside = outside_then S J old mid new a.outside b.outside;
    same = λ stays name. b.same stays name ∙ a.same refl name;
  }

-- it goes on with the next name, and this one may not leave, if none was refused
pub none_may : (before : Bool) (r : Leaving) → has_left r ≡ false → before || is_declined r ≡ false →
    (before ≡ false) × (r ≡ leaving.NoneMay)
none_may true r e d = never (sym d)
none_may false leaving.Left e d = never (sym e)
none_may false leaving.NoneMay e d = (refl, refl)
none_may false leaving.Refused e d = never (sym d)

-- Tables with the same names are full alike.
pub full_same : {X Y : Type 0} (S : StoreGhosts X) (J : JournalGhosts Y) (first first' : List ℕ → Option (List ℕ))
    (old new : Server X Y S J) (book book' : Book) → HoldsBook S J first old book → HoldsBook S J first' new book' →
    KeepsSessions (session_kept old) (session_kept new) → is_full book' ≡ is_full book
full_same S J first first' old new book book' h h' same =
    ap (λ (n : ℕ). nat_le most_takes n)
    (names_report_the_length book' book h'.holds.is_book h.holds.is_book (λ n. h'.holds.names n
    ∙ ap (λ (o : Option Session). is_some (option_map kept_by o)) (same n) ∙ sym (h.holds.names n)))

-- where a place may be needed, there is one, or none may leave the table
pub place_then : {X Y : Type 0} (S : StoreGhosts X) (J : JournalGhosts Y) (mid new : Server X Y S J) (l : Leaving) →
    (l ≡ leaving.NoneMay → NoneMayLeave S J mid) → KeepsSessions (session_kept mid) (session_kept new) →
    HasPlace S J true new ⊎ (l ≡ leaving.NoneMay) → HasPlace S J true new ⊎ NoneMayLeave S J new
place_then S J mid new l none same (inl place) = inl place
place_then S J mid new l none same (inr is) = inr (none_same S J mid new same (none is))

-- a name that isn't known has no session
pub absent : (b : Bool) (o : Option Session) → b ≡ is_some o → b ≡ false → o ≡ None
absent b None e f = refl
absent b (Some s) e f = never (sym f ∙ e)

-- it can't be known then
pub not_known : {A : Type 0} (b : Bool) (o : Option Session) → b ≡ is_some o → b ≡ false → IsSome o → A
not_known b o e f some = never (sym f ∙ e ∙ some)
