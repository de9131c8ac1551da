-- What lies in a folder wherever a server over it is stopped, and the next server over it.
use Rattle.std.proofs.Common.{◌≡◌, ◌⊎◌, inl, inr, ℕ, zero, suc, ◌<◌, ◌≤◌, Bool, true, false, not, ◌||◌, List, [], ◌∷◌}
use Rattle.std.proofs.Common.{◌++◌, length, take, drop, Option, Some, None, is_some, refl, sym, ◌∙◌, ap, subst, arith}
use Rattle.std.specs.Prelude.{IsTrue, option_map, fold, count_by}
use Rattle.std.specs.List.{list_all}
use Rattle.std.proofs.lemmas.Bool.{ltb-true}
use Rattle.bw_model.specs.Bytes.{first_free}
use Rattle.bw_model.specs.ReadBack.{is_admitted}
use Rattle.bw_model.specs.Take.{Take, Request}
use Rattle.bw_model.specs.Wire.{is_name}
use Rattle.bw_model.specs.Book.{Log, Book, log_of, is_known, made}
use Rattle.bw_model.specs.BookRules.{IsLog}
use Rattle.bw_model.specs.CountedTurn.{is_pending}
use Rattle.bw_model.proofs.BookLemmas.{unknown_log}
use Rattle.bw_store.specs.declared.store.TakeStore.{Ghosts as StoreGhosts}
use Rattle.bw_journal.specs.JournalHeaders.{Header}
use Rattle.bw_journal.specs.NotedJournals.{journal_of, up_to}
use Rattle.bw_journal.specs.Stops.{cut_log, cut_book}
use Rattle.bw_journal.specs.declared.journal.Journal.{Ghosts as JournalGhosts}
use Rattle.bw_journal.proofs.CutLaws.{books_are_cut, logs_cut, made-cut}
use Rattle.bw_journal.proofs.RecoveryLaws.{held_files_survive}
use Rattle.bw_folder.specs.PendingNotes.{IsOnDisk}
use Rattle.bw_session.specs.Servers.{kept_by}
use Rattle.bw_session.specs.Tables.{session_in}
use Rattle.bw_session.specs.WriteOrders.{IsInOrder, file_due}
use Rattle.bw_session.specs.NextNumbers.{with_done}
use Rattle.bw_session.specs.declared.session.Session.{Session}
use Rattle.bw_session.specs.declared.server.Server.{Server}
use Rattle.bw_session.proofs.ResumeForms.{book_admits, journal_cut}
use Rattle.bw_recovery.specs.Left.{IsLeftFile, wanted_file}
use Rattle.bw_recovery.specs.LeftNames.{header_beside, IsLeftName}
use Rattle.bw_kept.specs.DiskNotes.{AreOnDisk}
use Rattle.bw_kept.specs.FolderRuns.{ends_with_request}
use Rattle.bw_kept.specs.KeptFolders.{HoldsKept, IsOutOfTable, LiesInFolder}
use Rattle.bw_kept.specs.LeftFolders.{LiesThere, LeavesDone, KeptServersLeaveDone, EmptyServersHold}
use Rattle.bw_kept.specs.LeftFolders.{LeftBooksLieThere, CommittedBooksAreCovered}
use Rattle.bw_kept.specs.LeftNames.{IsWrittenInOrder}
use Rattle.bw_session.specs.Books.{WaitingNumbersAreInOrder}
use Rattle.bw_kept.proofs.DiskForms.{on_disk_all}
use Rattle.bw_kept.proofs.KeptForms.{never, outside_whole}
use Rattle.bw_kept.proofs.LeftBooks.{IsMost, first_book, leaves_first, log-kept, log_kept, most_free}
use Rattle.bw_kept.proofs.LeftLengths.{left_long, stands_long}
use Rattle.bw_kept.proofs.LeftNames.{Known, LiesByFirst, Stands, name_on_disk, header_is}

-- A log cut to its done numbers.

-- places of a prefix past its end
past : {A : Type 0} (n : ℕ) (xs : List A) → drop n (take n xs) ≡ []
past zero xs = refl
past (suc n) [] = refl
past (suc n) (x ∷ xs) = past n xs

ends_cut : (n : ℕ) (xs : List (Option Request)) → n ≤ first_free xs →
    fold (λ so_far place. is_some place) true (take n xs) ≡ true
ends_cut zero xs few = refl
ends_cut (suc n) [] few = refl
ends_cut (suc n) (None ∷ xs) few = absurd (omega arith)
ends_cut (suc n) (Some r ∷ xs) few = ends_cut n xs (omega (arith, few))

-- what is left of a name's log is left of its done numbers
left_cut : (limit : ℕ) (first : Option (List ℕ)) (name : List ℕ) (log : Log) (journal file : Option (List ℕ)) →
    IsLeftName limit first name log journal file → IsLeftName limit first name (cut_log log) journal file
left_cut limit first name log None file left = left
left_cut limit first name log (Some bytes) file (inl left) = inl (record {
  tail = left.tail;
  cut = left.cut;
  notes = left.notes ∙ ap (λ (j : List ℕ). j ++ left.tail) (sym (journal_cut (header_beside limit first) name log));
  file = subst (λ (t : Take). IsLeftFile first t limit file)
      (sym (made-cut (is_some first) log.admitted log.done log.done (omega arith))) left.file;
})
left_cut limit first name log (Some bytes) file (inr left) = inr (record {
  none = left.none;
  count = left.count;
  short = left.short;
  notes = left.notes;
  file = left.file;
  foreign = left.foreign;
})

lies_cut : (limit : ℕ) (first : Option (List ℕ)) (name : List ℕ) (log : Log) (journal file : Option (List ℕ)) →
    LiesInFolder limit first name log journal file → LiesInFolder limit first name (cut_log log) journal file
lies_cut limit first name log journal file (inl left) = inl (left_cut limit first name log journal file left)
lies_cut limit first name log journal file (inr faulty) = inr (record { none = faulty.none; fault = faulty.fault })

outside_cut : (limit : ℕ) (first : Option (List ℕ)) (name : List ℕ) (log : Log) (journal file : Option (List ℕ)) →
    LiesInFolder limit first name log journal file → IsOutOfTable limit first name (cut_log log) journal file
outside_cut limit first name log journal file lies = record {
  quiet = ap (count_by is_some) (past log.done log.admitted);
  lies = lies_cut limit first name log journal file lies;
}

-- so of a book, of each of whose names these numbers were admitted
lies_there : (limit : ℕ) (first : List ℕ → Option (List ℕ)) (book : Book) (journals files : List ℕ → Option (List ℕ)) →
    ((name : List ℕ) → (log_of book name).done ≤ first_free (log_of book name).admitted) →
    ((name : List ℕ) → IsTrue (list_all is_admitted (log_of book name).admitted)) →
    ((name : List ℕ) → IsTrue (is_name name) → LiesInFolder limit (first name) name (log_of book name) (journals name)
    (files name)) → LiesThere limit first (cut_book book) journals files
lies_there limit first book journals files free right lies = record {
  each = record { logs = logs; ends = ends };
  names = λ name named.
      subst (λ (l : Log). IsOutOfTable limit (first name) name l (journals name) (files name)) (sym (logs_cut book name))
      (outside_cut limit (first name) name (log_of book name) (journals name) (files name) (lies name named));
}
  where
    ends : (name : List ℕ) → IsTrue (ends_with_request (log_of (cut_book book) name))
    ends name =
        subst (λ (l : Log). IsTrue (ends_with_request l)) (sym (logs_cut book name))
        (ends_cut (log_of book name).done (log_of book name).admitted (free name))

    logs : (name : List ℕ) → IsTrue (is_known (cut_book book) name) → IsLog (log_of (cut_book book) name)
    logs name known =
        let some : 0 < (log_of book name).done =
        ltb-true 0 (log_of book name).done (sym ((books_are_cut book).known name) ∙ known) in
        subst IsLog (sym (logs_cut book name))
        (log_kept (log_of book name) (log_of book name).done (right name) (free name) some)

-- each done number of a folder's book was admitted
module _ (book : Book) (each : (name : List ℕ) → IsTrue (is_known book name) → IsLog (log_of book name)) where
  pub book_free : (name : List ℕ) → (log_of book name).done ≤ first_free (log_of book name).admitted
  book_free name = go (is_known book name) refl
    where
      go : (v : Bool) → is_known book name ≡ v → (log_of book name).done ≤ first_free (log_of book name).admitted
      go true known = (each name known).all_done
      go false unknown =
          let none = ap (λ (l : Log). l.done) (unknown_log book name unknown) in omega (arith, none)

  book_right : (name : List ℕ) → IsTrue (list_all is_admitted (log_of book name).admitted)
  book_right name = go (is_known book name) refl
    where
      go : (v : Bool) → is_known book name ≡ v → IsTrue (list_all is_admitted (log_of book name).admitted)
      go true known = (each name known).fits
      go false unknown =
          ap (λ (l : Log). list_all is_admitted l.admitted) (unknown_log book name unknown)

pub left_books_lie_there : LeftBooksLieThere
left_books_lie_there limit first book journals files left =
    lies_there limit first book journals files (book_free book left.is_book.logs) (book_right book left.is_book.logs)
    (λ name named. inl (left.names name))

-- A server that knows no name yet.

no_session : (o : Option Session) → is_some (option_map kept_by o) ≡ false → o ≡ None
no_session None e = refl
no_session (Some s) e = never (sym e)

pub empty_servers_hold : {X Y : Type 0} (S : StoreGhosts X) (J : JournalGhosts Y) → EmptyServersHold S J
empty_servers_hold S J first s book e there = record {
  table = [];
  now = S.contents s.stores.store;
  held = e.held;
  noted = record {
    known = λ name x is. no_none (sym (none name) ∙ is);
    unknown = λ name is awake. never (sym awake);
    existed = λ name awake. never (sym awake);
  };
  ordered = λ name x is. no_none (sym (none name) ∙ is);
  small = e.small;
  folder = e.folder;
  limits = e.limits;
  each = there.each;
  inside = λ name known. never known;
  outside = λ name named unknown.
      outside_whole s.limit (first name) name (log_of book name) (J.committed s.stores.journal name)
      (J.notes s.stores.journal name) (S.contents s.stores.store name)
      (λ found on. on_disk_all (J.committed s.stores.journal name) (J.notes s.stores.journal name) found (e.committed name) on)
      (there.names name named);
  ready = λ name unknown awake. never awake;
}
  where
    no_none : {A B : Type 0} {b : B} → None ≡ Some b → A
    no_none e = cc

    none : (name : List ℕ) → session_in s.sessions name ≡ None
    none name = no_session (session_in s.sessions name) (sym (e.held.holds.names name))

-- A server that is stopped.

-- what a store is to have of a name, in the words of a start
due_wanted : (first : Option (List ℕ)) (log : Log) (limit : ℕ) →
    file_due first log limit ≡ wanted_file first (made (is_some first) log.admitted log.done) limit
due_wanted None log limit = refl
due_wanted (Some bytes) log limit = refl

module _ {X Y : Type 0} (S : StoreGhosts X) (J : JournalGhosts Y) (first : List ℕ → Option (List ℕ))
    (s : Server X Y S J) (book : Book) (honest : IsTrue (S.honest s.stores.store))
    (honest_notes : IsTrue (J.honest s.stores.journal)) (h : HoldsKept S J first s book)
    (waits : WaitingNumbersAreInOrder S J) (journals : List ℕ → Option (List ℕ))
    (on : AreOnDisk J s.stores.journal journals) where
  abbrev asleep : List ℕ → Bool
  asleep n = not (is_known h.table n || false)

  -- of a name in the table
  module _ (name : List ℕ) (known : is_known h.table name ≡ true) where
    abbrev log : Log
    log = log_of h.table name

    awake : asleep name ≡ false
    awake = ap not (ap (λ (v : Bool). v || false) known)

    is_head : J.header s.stores.journal name ≡ header_beside s.limit (h.now name)
    is_head =
        header_is (J.header s.stores.journal name) s.limit (h.now name) (h.limits name) (h.noted.existed name awake)

    stands : Stands (header_beside s.limit (h.now name)) name log (J.notes s.stores.journal name)
    stands =
        subst (λ (x : Header). Stands x name log (J.notes s.stores.journal name)) is_head
        (go (session_in s.sessions name) refl)
      where
        go : (o : Option Session) → session_in s.sessions name ≡ o →
            Stands (J.header s.stores.journal name) name log (J.notes s.stores.journal name)
        go (Some x) e = (h.noted.known name x e).stands
        go None e =
            never (sym (h.held.holds.names name ∙ ap (λ (o : Option Session). is_some (option_map kept_by o)) e) ∙ known)

    order : is_pending log ≡ true →
        IsWrittenInOrder s.limit (h.now name) name log (J.notes s.stores.journal name) (S.contents s.stores.store name)
    order pending =
        let o = subst (λ (x : Header). IsInOrder x (h.now name) name log s.limit (J.notes s.stores.journal name)
        (S.contents s.stores.store name)) is_head
        (waits asleep h.now s h.table honest h.held h.noted h.ordered name awake pending) in
        record { begun = o.begun; noted = λ is. o.noted is ∙ due_wanted (h.now name) (with_done log) s.limit }

    facts : Known s.limit (h.now name) name log (J.notes s.stores.journal name) (S.contents s.stores.store name)
    facts = record {
      admits = book_admits h.table h.held.holds.is_book name;
      right = (h.held.holds.is_book.logs name known).fits;
      stood = λ bytes e.
          h.held.holds.others honest name (inl (ap (λ (o : Option (List ℕ)). is_some o) e)) ∙ e;
      own = λ none. held_files_survive s.limit _ _ h.table h.held.holds honest name none;
      stands = stands;
      order = order;
    }

    known_lies : LiesByFirst s.limit (first name) name (log_of book name) (J.committed s.stores.journal name)
        (journals name) (S.contents s.stores.store name)
    known_lies =
        let there = h.inside name known in
        subst (λ (l : Log). LiesByFirst s.limit (first name) name l (J.committed s.stores.journal name) (journals name)
        (S.contents s.stores.store name)) (sym there.same_log)
        (subst (λ (o : Option (List ℕ)). LiesByFirst s.limit o name log (J.committed s.stores.journal name)
        (journals name) (S.contents s.stores.store name)) there.same_first
        (name_on_disk s.limit (h.now name) name log (J.notes s.stores.journal name) (S.contents s.stores.store name) h.small
        facts (J.committed s.stores.journal name) (journals name) (on name)))

  abbrev LiesAs : List ℕ → Log → Type 0
  LiesAs name log = LiesInFolder s.limit (first name) name log (journals name) (S.contents s.stores.store name)

  -- how many numbers of a name lie there
  record IsKept (name : List ℕ) : Type 0 where
    kept : ℕ
    most : IsMost (log_of book name) kept
    least : (n : ℕ) → n ≤ (log_of book name).done →
        (IsTrue (is_name name) → length (journal_of (header_beside s.limit (first name)) name (up_to n (log_of book name)))
        ≤ J.committed s.stores.journal name) → n ≤ kept
    lies : IsTrue (is_name name) → LiesAs name (up_to kept (log_of book name))

  each : (name : List ℕ) → IsKept name
  each name = go (is_name name) refl (is_known h.table name) refl
    where
      all : (IsTrue (is_name name) → LiesAs name (log_of book name)) → IsKept name
      all lies = record {
        kept = (log_of book name).done;
        most = inl (omega arith);
        least = λ n within ends. within;
        lies = lies;
      }

      go : (u : Bool) → is_name name ≡ u → (v : Bool) → is_known h.table name ≡ v → IsKept name
      go true named true known =
          let x = known_lies name known in
          record { kept = x.kept; most = x.most; least = λ n within ends. x.least n within (ends named); lies = λ is. x.lies }
      go true named false unknown = all (λ is. (h.outside name is unknown (journals name) (on name)).lies)
      go false other v e = all (λ is. never (sym other ∙ is))

  abbrev kept_of : List ℕ → ℕ
  kept_of name = (each name).kept

  pub leaves_done : LeavesDone s.limit first book (J.committed s.stores.journal) journals (S.contents s.stores.store)
  leaves_done =
      let left : Book = first_book kept_of book in
      let same : (name : List ℕ) → log_of left name ≡ up_to (kept_of name) (log_of book name) =
      log-kept book kept_of (λ name. (each name).most) in
      record {
        left = left;
        numbers = leaves_first book kept_of (λ name. (each name).most);
        least = λ name n within ends.
            subst (λ (l : Log). n ≤ l.done) (sym (same name)) ((each name).least n within ends);
        lies = lies_there s.limit first left journals (S.contents s.stores.store)
            (λ name. subst (λ (l : Log). l.done ≤ first_free l.admitted) (sym (same name))
            (most_free (log_of book name) (kept_of name) (book_free book h.each.logs name) (each name).most))
            (λ name. subst (λ (l : Log). IsTrue (list_all is_admitted l.admitted)) (sym (same name))
            (book_right book h.each.logs name))
            (λ name named. subst (LiesAs name) (sym (same name)) ((each name).lies named));
      }

pub kept_servers_leave_done : {X Y : Type 0} (S : StoreGhosts X) (J : JournalGhosts Y) →
    WaitingNumbersAreInOrder S J → KeptServersLeaveDone S J
kept_servers_leave_done S J waits first s book honest honest_notes h journals on =
    leaves_done S J first s book honest honest_notes h waits journals on

-- Where all notes are committed.

pub committed_books_are_covered : {X Y : Type 0} (S : StoreGhosts X) (J : JournalGhosts Y) →
    WaitingNumbersAreInOrder S J → CommittedBooksAreCovered S J
committed_books_are_covered S J waits first s book honest honest_notes h all name named some =
    go (is_known h.table name) refl
  where
    journals : List ℕ → Option (List ℕ)
    journals = J.notes s.stores.journal

    on : (n : List ℕ) → IsOnDisk (J.committed s.stores.journal n) (J.notes s.stores.journal n) (journals n)
    on n = inl refl

    fit : (bytes : List ℕ) × (journals name ≡ Some bytes)
        × (length (journal_of (header_beside s.limit (first name)) name (log_of book name)) ≤ length bytes) →
        length (journal_of (header_beside s.limit (first name)) name (log_of book name)) ≤ J.committed s.stores.journal name
    fit (bytes, is, long) = let most = all name bytes is in omega (arith, long, most)

    go : (v : Bool) → is_known h.table name ≡ v →
        length (journal_of (header_beside s.limit (first name)) name (log_of book name)) ≤ J.committed s.stores.journal name
    go true known =
        let there = h.inside name known in
        fit (subst (λ (l : Log). (bytes : List ℕ) × (journals name ≡ Some bytes)
        × (length (journal_of (header_beside s.limit (first name)) name l) ≤ length bytes)) (sym there.same_log)
        (subst (λ (o : Option (List ℕ)). (bytes : List ℕ) × (journals name ≡ Some bytes)
        × (length (journal_of (header_beside s.limit o) name (log_of h.table name)) ≤ length bytes)) there.same_first
        (stands_long (header_beside s.limit (h.now name)) name (log_of h.table name) (journals name)
        (subst (λ (l : Log). 0 < l.done) there.same_log some)
        (stands S J first s book honest honest_notes h waits journals on name known))))
    go false unknown =
        fit (left_long s.limit (first name) name (log_of book name) (journals name) (S.contents s.stores.store name) some
        (h.outside name named unknown (journals name) (on name)).lies)
