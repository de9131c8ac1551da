-- What is open of a folder, without one name.
use Rattle.std.proofs.Common.{◌≡◌, ◌∙◌, List, [], ◌∷◌, ◌++◌, ℕ, Bool, true, false, cond, not, Option, Some, None, refl, sym, ap}
use Rattle.std.specs.Prelude.{filter, option_map}
use Rattle.std.specs.List.{find}
use Rattle.std.specs.Str.{bytes_eq}
use Rattle.std.proofs.lemmas.List.{append-nil}
use Rattle.std.proofs.lemmas.List.Elements.{filter-append}
use Rattle.bw_model.proofs.BookLemmas.{name_refl}
use Rattle.bw_journal.specs.Replays.{Story}
use Rattle.bw_folder.specs.Folders.{names_but}
use Rattle.bw_folder.specs.Journals.{known_but, existence_of}
use Rattle.bw_disk.specs.declared.disk.Disk.{Ghosts}
use Rattle.bw_folder.specs.TakeFolders.{open_takes}
use Rattle.bw_folder.specs.JournalFolders.{open_journals}
use Rattle.bw_folder.specs.declared.folder.FolderStore.{FolderStore}
use Rattle.bw_folder.specs.declared.journal.FolderJournal.{FolderJournal}
use Rattle.bw_kept.specs.Recoveries.{is_written_on, take_opened, journal_opened, OpensStory, KeepsOthersOpen}
use Rattle.bw_kept.specs.RecoverySteps.{OpensMore}

twice : {X : Type 0} (p : X → Bool) (xs : List X) → filter p (filter p xs) ≡ filter p xs
twice p [] = refl
twice p (x ∷ xs) = go (p x) refl (twice p xs)
  where
    go : (b : Bool) → p x ≡ b → filter p (filter p xs) ≡ filter p xs →
        filter p (cond b (x ∷ filter p xs) (filter p xs)) ≡ cond b (x ∷ filter p xs) (filter p xs)
    go true e ih =
        ap (λ (b : Bool). cond b (x ∷ filter p (filter p xs)) (filter p (filter p xs))) e
        ∙ ap (λ ys. x ∷ ys) ih
    go false e ih = ih

-- taking a name out twice
pub names_twice : (name : List ℕ) (names : List (List ℕ)) → names_but name (names_but name names) ≡ names_but name names
names_twice name names = twice (λ (other : List ℕ). not (bytes_eq other name)) names

pub known_twice : (name : List ℕ) (known : List (List ℕ × Bool)) →
    known_but name (known_but name known) ≡ known_but name known
known_twice name known = twice (λ (it : List ℕ × Bool). not (bytes_eq it.0 name)) known

-- a journal is closed, unless notes of it are pending
released_but : (name : List ℕ) (v : Bool) (known : List (List ℕ × Bool)) →
    known_but name (cond v known (known_but name known)) ≡ known_but name known
released_but name true known = refl
released_but name false known = known_twice name known

pub released : {X : Type 0} (x a b : X) (v : Bool) → x ≡ cond v a b → v ≡ false → x ≡ b
released x a b v e none = e ∙ ap (λ (w : Bool). cond w a b) none

own_name : (name : List ℕ) → names_but name (name ∷ []) ≡ []
own_name name = ap (λ (b : Bool). cond (not b) (name ∷ []) []) (name_refl name)

own_take : (name : List ℕ) (s : Option Story) → names_but name (take_opened name s) ≡ []
own_take name None = refl
own_take name (Some s) = go (is_written_on s.parts)
  where
    go : (b : Bool) → names_but name (cond b (name ∷ []) []) ≡ []
    go true = own_name name
    go false = refl

own_journal : (name : List ℕ) (s : Option Story) → known_but name (journal_opened name s) ≡ []
own_journal name None = refl
own_journal name (Some s) = ap (λ (b : Bool). cond (not b) ((name, s.parts.taken) ∷ []) []) (name_refl name)

-- one more entry of a name doesn't count without it
pub names_one : (name : List ℕ) (names : List (List ℕ)) → names_but name (names ++ name ∷ []) ≡ names_but name names
names_one name names =
    filter-append (λ (other : List ℕ). not (bytes_eq other name)) names (name ∷ [])
    ∙ ap (λ (more : List (List ℕ)). names_but name names ++ more) (own_name name)
    ∙ append-nil (names_but name names)

pub known_one : (name : List ℕ) (existed : Bool) (known : List (List ℕ × Bool)) →
    known_but name (known ++ (name, existed) ∷ []) ≡ known_but name known
known_one name existed known =
    filter-append (λ (it : List ℕ × Bool). not (bytes_eq it.0 name)) known ((name, existed) ∷ [])
    ∙ ap (λ (more : List (List ℕ × Bool)). known_but name known ++ more)
    (ap (λ (b : Bool). cond (not b) ((name, existed) ∷ []) []) (name_refl name))
    ∙ append-nil (known_but name known)

-- what is opened of a name doesn't count without it
pub names_more : (name : List ℕ) (names : List (List ℕ)) (s : Option Story) →
    names_but name (names ++ take_opened name s) ≡ names_but name names
names_more name names s =
    filter-append (λ (other : List ℕ). not (bytes_eq other name)) names (take_opened name s)
    ∙ ap (λ (more : List (List ℕ)). names_but name names ++ more) (own_take name s)
    ∙ append-nil (names_but name names)

pub known_more : (name : List ℕ) (known : List (List ℕ × Bool)) (s : Option Story) →
    known_but name (known ++ journal_opened name s) ≡ known_but name known
known_more name known s =
    filter-append (λ (it : List ℕ × Bool). not (bytes_eq it.0 name)) known (journal_opened name s)
    ∙ ap (λ (more : List (List ℕ × Bool)). known_but name known ++ more) (own_journal name s)
    ∙ append-nil (known_but name known)

pub none_found : (name : List ℕ) (known : List (List ℕ × Bool)) →
    find (λ (it : List ℕ × Bool). bytes_eq it.0 name) (known_but name known) ≡ None
none_found name [] = refl
none_found name (x ∷ known) = go (bytes_eq x.0 name) refl (none_found name known)
  where
    go : (b : Bool) → bytes_eq x.0 name ≡ b →
        find (λ (it : List ℕ × Bool). bytes_eq it.0 name) (known_but name known) ≡ None →
        find (λ (it : List ℕ × Bool). bytes_eq it.0 name) (cond (not b) (x ∷ known_but name known) (known_but name known)) ≡ None
    go true e ih = ih
    go false e ih =
        ap (λ (b : Bool). cond b (Some x) (find (λ (it : List ℕ × Bool). bytes_eq it.0 name) (known_but name known))) e
        ∙ ih

-- and none of it is known then
pub none_known : (name : List ℕ) (known : List (List ℕ × Bool)) → existence_of (known_but name known) name ≡ None
none_known name known = ap (option_map (λ (it : List ℕ × Bool). it.1)) (none_found name known)

module _ {D E F H : Type 0} {G : Ghosts D F} {K : Ghosts E H} where
  -- nothing more was opened
  pub opens_none : (name : List ℕ) (s : Option Story) (store : FolderStore D F G) (journal : FolderJournal E H K)
      (store' : FolderStore D F G) (journal' : FolderJournal E H K) → s ≡ None → open_takes store' ≡ open_takes store →
      open_journals journal' ≡ open_journals journal → OpensMore name s store journal store' journal'
  opens_none name s store journal store' journal' none t n = record {
    takes = t ∙ sym (append-nil (open_takes store))
        ∙ ap (λ (x : Option Story). open_takes store ++ take_opened name x) (sym none);
    journals = n ∙ sym (append-nil (open_journals journal))
        ∙ ap (λ (x : Option Story). open_journals journal ++ journal_opened name x) (sym none);
  }

  -- what is open is open of the other names
  pub same_open : (name : List ℕ) (store : FolderStore D F G) (journal : FolderJournal E H K)
      (store' : FolderStore D F G) (journal' : FolderJournal E H K) → open_takes store' ≡ open_takes store →
      open_journals journal' ≡ open_journals journal → KeepsOthersOpen name store journal store' journal'
  same_open name store journal store' journal' t n = record {
    takes = ap (names_but name) t;
    journals = ap (known_but name) n;
  }

  -- more was opened of this name alone
  pub more_open : (name : List ℕ) (s : Option Story) (store : FolderStore D F G) (journal : FolderJournal E H K)
      (store' : FolderStore D F G) (journal' : FolderJournal E H K) → OpensMore name s store journal store' journal' →
      KeepsOthersOpen name store journal store' journal'
  more_open name s store journal store' journal' more = record {
    takes = ap (names_but name) more.takes ∙ names_more name (open_takes store) s;
    journals = ap (known_but name) more.journals ∙ known_more name (open_journals journal) s;
  }

  -- one step after another
  pub open_then : (name : List ℕ) (store : FolderStore D F G) (journal : FolderJournal E H K) (store' : FolderStore D F G)
      (journal' : FolderJournal E H K) (store'' : FolderStore D F G) (journal'' : FolderJournal E H K) →
      KeepsOthersOpen name store journal store' journal' → KeepsOthersOpen name store' journal' store'' journal'' →
      KeepsOthersOpen name store journal store'' journal''
  open_then name store journal store' journal' store'' journal'' a b = record {
    takes = b.takes ∙ a.takes;
    journals = b.journals ∙ a.journals;
  }

  -- this name was closed
  pub closed_open : (name : List ℕ) (store : FolderStore D F G) (journal : FolderJournal E H K)
      (store' : FolderStore D F G) (journal' : FolderJournal E H K) →
      open_takes store' ≡ names_but name (open_takes store) → (v : Bool) →
      open_journals journal' ≡ cond v (open_journals journal) (known_but name (open_journals journal)) →
      KeepsOthersOpen name store journal store' journal'
  closed_open name store journal store' journal' t v n = record {
    takes = ap (names_but name) t ∙ names_twice name (open_takes store);
    journals = ap (known_but name) n ∙ released_but name v (open_journals journal);
  }

  -- it was closed before another step
  pub closed_first : (name : List ℕ) (store : FolderStore D F G) (journal : FolderJournal E H K)
      (store' : FolderStore D F G) (journal' : FolderJournal E H K) (store'' : FolderStore D F G)
      (journal'' : FolderJournal E H K) → open_takes store' ≡ names_but name (open_takes store) → (v : Bool) →
      open_journals journal' ≡ cond v (open_journals journal) (known_but name (open_journals journal)) →
      KeepsOthersOpen name store' journal' store'' journal'' → KeepsOthersOpen name store journal store'' journal''
  closed_first name store journal store' journal' store'' journal'' t v n kept =
      open_then name store journal store' journal' store'' journal'' (closed_open name store journal store' journal' t v n)
      kept

  -- once more was opened, after what was the same
  pub opens_after : (name : List ℕ) (s s' : Option Story) (store : FolderStore D F G) (journal : FolderJournal E H K)
      (store' : FolderStore D F G) (journal' : FolderJournal E H K) (store'' : FolderStore D F G)
      (journal'' : FolderJournal E H K) → s' ≡ s → open_takes store' ≡ open_takes store →
      open_journals journal' ≡ open_journals journal → OpensMore name s' store' journal' store'' journal'' →
      OpensMore name s store journal store'' journal''
  opens_after name s s' store journal store' journal' store'' journal'' same t n more = record {
    takes = more.takes ∙ ap (λ (xs : List (List ℕ)). xs ++ take_opened name s') t
        ∙ ap (λ (x : Option Story). open_takes store ++ take_opened name x) same;
    journals = more.journals ∙ ap (λ (xs : List (List ℕ × Bool)). xs ++ journal_opened name s') n
        ∙ ap (λ (x : Option Story). open_journals journal ++ journal_opened name x) same;
  }

  -- and after the name was closed
  pub opens_closed : (name : List ℕ) (s s' : Option Story) (store : FolderStore D F G) (journal : FolderJournal E H K)
      (store' : FolderStore D F G) (journal' : FolderJournal E H K) (store'' : FolderStore D F G)
      (journal'' : FolderJournal E H K) → s' ≡ s → open_takes store' ≡ names_but name (open_takes store) →
      open_journals journal' ≡ known_but name (open_journals journal) →
      OpensMore name s' store' journal' store'' journal'' → OpensStory name s store journal store'' journal''
  opens_closed name s s' store journal store' journal' store'' journal'' same t n more = record {
    takes = more.takes ∙ ap (λ (xs : List (List ℕ)). xs ++ take_opened name s') t
        ∙ ap (λ (x : Option Story). names_but name (open_takes store) ++ take_opened name x) same;
    journals = more.journals ∙ ap (λ (xs : List (List ℕ × Bool)). xs ++ journal_opened name s') n
        ∙ ap (λ (x : Option Story). known_but name (open_journals journal) ++ journal_opened name x) same;
  }

  -- a name that was closed, opened in part and closed again
  pub closed_again : (name : List ℕ) (store : FolderStore D F G) (journal : FolderJournal E H K) (store' : FolderStore D F G)
      (journal' : FolderJournal E H K) (store'' : FolderStore D F G) (journal'' : FolderJournal E H K)
      (last : FolderStore D F G) (last_journal : FolderJournal E H K) →
      open_takes store' ≡ names_but name (open_takes store) →
      open_journals journal' ≡ known_but name (open_journals journal) →
      KeepsOthersOpen name store' journal' store'' journal'' →
      open_takes last ≡ names_but name (open_takes store'') →
      open_journals last_journal ≡ known_but name (open_journals journal'') →
      OpensStory name None store journal last last_journal
  closed_again name store journal store' journal' store'' journal'' last last_journal t n kept t' n' = record {
    takes = t' ∙ kept.takes ∙ ap (names_but name) t ∙ names_twice name (open_takes store)
        ∙ sym (append-nil (names_but name (open_takes store)));
    journals = n' ∙ kept.journals ∙ ap (known_but name) n ∙ known_twice name (open_journals journal)
        ∙ sym (append-nil (known_but name (open_journals journal)));
  }
