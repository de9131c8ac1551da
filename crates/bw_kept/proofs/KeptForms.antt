-- What lies outside a table, and how much is known of it.
use Rattle.std.proofs.Common.{◌≡◌, ◌⊎◌, inl, inr, ℕ, ◌<◌, ◌≤◌, ◌^◌, Bool, true, false, not, ◌||◌, List}
use Rattle.std.proofs.Common.{Option, Some, None, refl, sym, ◌∙◌, ap, subst, arith}
use Rattle.std.specs.Prelude.{is_some}
use Rattle.std.specs.Str.{bytes_eq}
use Rattle.bw_model.specs.Book.{Log, Book, no_log, is_known, made}
use Rattle.bw_model.proofs.BookLemmas.{same_name}
use Rattle.bw_journal.specs.JournalHeaders.{Header, header_bytes}
use Rattle.bw_journal.specs.Notes.{IsPrefixOf}
use Rattle.bw_store.specs.declared.store.TakeStore.{Ghosts as StoreGhosts}
use Rattle.bw_journal.specs.declared.journal.Journal.{Ghosts as JournalGhosts}
use Rattle.bw_session.specs.declared.server.Server.{Server}
use Rattle.bw_recovery.specs.LeftNames.{header_beside}
use Rattle.bw_session.specs.Books.{NotesAwake}
use Rattle.bw_kept.specs.KeptFolders.{HoldsBeside, HoldsKept, HoldsReady, IsOutOfTable, StaysOutOfTable, LiesInFolder}
use Rattle.bw_kept.specs.LeftNames.{LiesAsEither}
use Rattle.bw_folder.specs.PendingNotes.{IsOnDisk}
use Rattle.bw_journal.proofs.Lengths.{length-header_bytes}
use Rattle.bw_kept.proofs.DiskForms.{on_disk_less, on_disk_short}
use Rattle.bw_kept.proofs.LeftNames.{Known, name_left, header_is}

pub never : {A : Type 0} → false ≡ true → A
never e = absurd cc

pub no_some : {A B : Type 0} {b : B} → None ≡ Some b → A
no_some e = cc

-- what is outside a table, where all of it is the same, and no less is committed
pub outside_as : (limit limit' : ℕ) (first : Option (List ℕ)) (name : List ℕ) (log log' : Log) (committed committed' : ℕ)
    (journal journal' file file' : Option (List ℕ)) → limit' ≡ limit → log' ≡ log → committed ≤ committed' →
    journal' ≡ journal → file' ≡ file → StaysOutOfTable limit first name log committed journal file →
    StaysOutOfTable limit' first name log' committed' journal' file'
outside_as limit limit' first name log log' committed committed' journal journal' file file' l g c j f o = λ found on.
    subst (λ (v : ℕ). IsOutOfTable v first name log' found file') (sym l)
    (subst (λ (v : Log). IsOutOfTable limit first name v found file') (sym g)
    (subst (λ (v : Option (List ℕ)). IsOutOfTable limit first name log found v) (sym f)
    (o found (on_disk_less committed committed' journal journal' found c j on))))

-- what lies outside a table now
pub outside_now : (limit : ℕ) (first : Option (List ℕ)) (name : List ℕ) (log : Log) (committed : ℕ)
    (journal file : Option (List ℕ)) → StaysOutOfTable limit first name log committed journal file →
    IsOutOfTable limit first name log journal file
outside_now limit first name log committed journal file o = o journal (inl refl)

-- what lies there stays so where the disk has all that is noted
pub outside_whole : (limit : ℕ) (first : Option (List ℕ)) (name : List ℕ) (log : Log) (committed : ℕ)
    (journal file : Option (List ℕ)) →
    ((found : Option (List ℕ)) → IsOnDisk committed journal found → found ≡ journal) →
    IsOutOfTable limit first name log journal file → StaysOutOfTable limit first name log committed journal file
outside_whole limit first name log committed journal file whole o = λ found on.
    subst (λ (v : Option (List ℕ)). IsOutOfTable limit first name log v file) (sym (whole found on)) o

-- a name of which nothing is known lies in the folder, if its journal is no more than a prefix of a header
pub unknown_lies : (limit : ℕ) (first : Option (List ℕ)) (name : List ℕ) (h : Header)
    (committed : ℕ) (journal file : Option (List ℕ)) → limit < 2 ^ 32 → h.limit ≡ limit → h.existed ≡ is_some first →
    IsPrefixOf (header_bytes name h) journal → file ≡ first →
    StaysOutOfTable limit first name no_log committed journal file
unfolding made
unknown_lies limit first name h committed journal file small same existed prefix stays =
    outside_whole limit first name no_log committed journal file
    (λ found on. on_disk_short committed (header_bytes name h) journal found
    (let long = length-header_bytes name h in omega (arith, long)) prefix on)
    (record {
      quiet = refl;
      lies = go (name_left limit first name no_log journal file small known);
    })
  where
    head : h ≡ header_beside limit first
    head = header_is h limit first same existed

    known : Known limit first name no_log journal file
    known = record {
      admits = record { long = refl; each = refl };
      right = refl;
      stood = λ bytes e. stays ∙ e;
      own = λ none. inl (stays ∙ none);
      stands = inl (refl, subst (λ (x : Header). IsPrefixOf (header_bytes name x) journal) head prefix);
      order = λ waits. never waits;
    }

    go : LiesAsEither limit first name no_log journal file → LiesInFolder limit first name no_log journal file
    go (inl lies) = lies
    go (inr (waits, left)) = never waits

-- what is known of some names is known of fewer
pub notes_less : {X Y : Type 0} (S : StoreGhosts X) (J : JournalGhosts Y) (asleep asleep' : List ℕ → Bool)
    (first : List ℕ → Option (List ℕ)) (s : Server X Y S J) (book : Book) →
    ((n : List ℕ) → asleep' n ≡ false → asleep n ≡ false) → NotesAwake S J asleep first s book →
    NotesAwake S J asleep' first s book
notes_less S J asleep asleep' first s book less noted = record {
  known = noted.known;
  unknown = λ n gone e. noted.unknown n gone (less n e);
  existed = λ n e. noted.existed n (less n e);
}

module _ {X Y : Type 0} (S : StoreGhosts X) (J : JournalGhosts Y) (first : List ℕ → Option (List ℕ)) (s : Server X Y S J)
    (book : Book) where
  -- some names outside are awake, or fewer
  pub beside_less : (awake awake' : List ℕ → Bool) (h : HoldsBeside S J awake first s book) →
      ((n : List ℕ) → awake' n ≡ true → (is_known h.table n ≡ true) ⊎ (awake n ≡ true)) →
      HoldsBeside S J awake' first s book
  beside_less awake awake' h less = record {
    table = h.table;
    now = h.now;
    held = h.held;
    noted = notes_less S J (λ n. not (is_known h.table n || awake n)) (λ n. not (is_known h.table n || awake' n)) h.now s
        h.table (λ n e. weaker (is_known h.table n) (awake n) (awake' n) (less n) e) h.noted;
    ordered = h.ordered;
    small = h.small;
    folder = h.folder;
    limits = h.limits;
    each = h.each;
    inside = h.inside;
    outside = h.outside;
    ready = λ n unknown is. h.ready n unknown (still n unknown (less n is));
  }
    where
      weaker : (a b c : Bool) → (c ≡ true → (a ≡ true) ⊎ (b ≡ true)) → not (a || c) ≡ false → not (a || b) ≡ false
      weaker true b c m e = refl
      weaker false b false m e = never (sym e)
      weaker false b true m e = elim (m refl) [ inl a ↦ never a | inr is ↦ ap not is ]

      still : (n : List ℕ) → is_known h.table n ≡ false → (is_known h.table n ≡ true) ⊎ (awake n ≡ true) → awake n ≡ true
      still n unknown (inl known) = never (sym unknown ∙ known)
      still n unknown (inr is) = is

  -- no name is awake any more
  pub ready_kept : (name : List ℕ) → HoldsReady S J name first s book → HoldsKept S J first s book
  ready_kept name h = beside_less (λ n. bytes_eq name n) (λ n. false) h (λ n e. never e)

  -- a name of the table is awake
  pub known_ready : (name : List ℕ) (h : HoldsKept S J first s book) → is_known h.table name ≡ true →
      HoldsReady S J name first s book
  known_ready name h known =
      beside_less (λ n. false) (λ n. bytes_eq name n) h
      (λ n e. inl (ap (is_known h.table) (sym (same_name name n e)) ∙ known))
