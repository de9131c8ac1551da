-- A name is forgotten of which a number is done and nothing waits.
use Rattle.std.proofs.Common.{◌≡◌, ℕ, ◌+◌, ◌<◌, Bool, true, false, cond, List, [], ◌++◌, length, take, arith}
use Rattle.std.proofs.Common.{Option, Some, None, refl, sym, ◌∙◌, ap, subst, inl, inr}
use Rattle.std.specs.Prelude.{IsTrue, is_some, option_map}
use Rattle.std.specs.Str.{bytes_eq}
use Rattle.std.proofs.lemmas.List.{append-nil}
use Rattle.bw_model.specs.Bytes.{at}
use Rattle.bw_model.specs.Book.{Log, Book, log_of}
use Rattle.bw_model.specs.Holds.{Store, HoldsName, body_of}
use Rattle.bw_model.proofs.BookLemmas.{same_name, name_refl}
use Rattle.bw_journal.specs.JournalHeaders.{Header}
use Rattle.bw_journal.specs.NotedJournals.{journal_of}
use Rattle.bw_journal.specs.Stops.{without}
use Rattle.bw_journal.proofs.CutLaws.{log-without_other, known-without_same, known-without_other}
use Rattle.bw_session.specs.Books.{count_waiting}
use Rattle.bw_session.specs.NotedNames.{NotesNames}
use Rattle.bw_session.specs.NameNotes.{entry_if, next_entry}
use Rattle.bw_session.specs.TableChanges.{with_first}
use Rattle.bw_session.specs.Servers.{HoldsIn, kept_by}
use Rattle.bw_session.specs.Sessions.{part_of}
use Rattle.bw_session.specs.TableChanges.{with_asleep}
use Rattle.bw_session.specs.Windows.{count_held}
use Rattle.bw_session.specs.WriteOrders.{FileComesFirst, NextIsCarriedOut, file_due}
use Rattle.bw_session.specs.declared.session.Session.{Session}
use Rattle.bw_session.proofs.JournalForms.{OrderIn}
use Rattle.bw_session.proofs.ReportForms.{held_reported}
use Rattle.bw_session.proofs.OtherForms.{holds_but, notes_but, book_without}
use Rattle.bw_session.proofs.QuietForms.{none_held, unmapped, take_none, clean_or}

never : {A : Type 0} → false ≡ true → A
never e = absurd cc

no_session : {A : Type 0} {s : Session} → None ≡ Some s → A
no_session e = cc

-- what is under a name, in a map that differs there
pub first_same : (f : List ℕ → Option (List ℕ)) (name : List ℕ) (x : Option (List ℕ)) → with_first f name x name ≡ x
first_same f name x = ap (λ (v : Bool). cond v x (f name)) (name_refl name)

pub first_apart : (f : List ℕ → Option (List ℕ)) (name : List ℕ) (x : Option (List ℕ)) (m : List ℕ) →
    bytes_eq name m ≡ false → with_first f name x m ≡ f m
first_apart f name x m b = ap (λ (v : Bool). cond v x (f m)) b

pub asleep_same : (f : List ℕ → Bool) (name : List ℕ) (x : Bool) → with_asleep f name x name ≡ x
asleep_same f name x = ap (λ (v : Bool). cond v x (f name)) (name_refl name)

pub asleep_apart : (f : List ℕ → Bool) (name : List ℕ) (x : Bool) (m : List ℕ) → bytes_eq name m ≡ false →
    with_asleep f name x m ≡ f m
asleep_apart f name x m b = ap (λ (v : Bool). cond v x (f m)) b

module _ (limit : ℕ) (store : Store) (sessions sessions' : List ℕ → Option Session) (book : Book)
    (h : HoldsIn limit store sessions book) (honest : IsTrue store.honest) (asleep : List ℕ → Bool)
    (header : List ℕ → Header) (notes : List ℕ → Option (List ℕ))
    (n : NotesNames asleep header notes store.first sessions book)
    (name : List ℕ) (s : Session) (found : sessions name ≡ Some s) (quiet : count_held s.window ≡ 0)
    (some : 0 < length s.progress.ledger.outcomes) where
  abbrev log : Log
  log = log_of book name

  kept_here : option_map kept_by (sessions name) ≡ Some (kept_by s)
  kept_here = ap (option_map kept_by) found

  named : HoldsName (is_some (store.first name)) name log (kept_by s)
  named = h.holds.each name (kept_by s) kept_here

  pub some_done : 0 < log.done
  some_done = let same : length s.progress.ledger.outcomes ≡ log.done = named.done in omega (arith, same, some)

  nothing_held : (i : ℕ) → at s.window i ≡ None
  nothing_held = none_held s.window quiet

  nothing_next : at log.admitted log.done ≡ None
  nothing_next =
      let same : log.done + 0 ≡ log.done = omega arith in
      ap (at log.admitted) (sym same)
      ∙ unmapped (body_of name (log.done + 0)) (at log.admitted (log.done + 0))
      (sym (nothing_held 0) ∙ named.held 0)

  pub waits_not : count_waiting log ≡ 0
  waits_not = sym (held_reported limit store sessions book h.holds name s found) ∙ quiet

  not_dirty : s.progress.growing.dirty ≡ false
  not_dirty = go s.progress.growing.dirty refl
    where
      go : (d : Bool) → s.progress.growing.dirty ≡ d → d ≡ false
      go true e = never (sym (ap is_some (nothing_held 0)) ∙ s.fits.held e)
      go false e = refl

  pub file_whole : store.contents name ≡ file_due (store.first name) log limit
  file_whole = go (store.first name) refl
    where
      go : (o : Option (List ℕ)) → store.first name ≡ o → store.contents name ≡ file_due o log limit
      go None e = clean_or s.progress.growing.dirty _ _ not_dirty (h.holds.files honest name (kept_by s) kept_here e).whole
      go (Some bytes) e = h.holds.others honest name (inl (ap is_some e)) ∙ e

  entries_end : (x : Header) (count : ℕ) → take count (next_entry x.existed name log) ≡ []
  entries_end x count =
      take_none count (next_entry x.existed name log)
      (ap (entry_if x.existed name log.admitted log.done) nothing_next)

  pub journal_whole : notes name ≡ Some (journal_of (header name) name log)
  journal_whole = elim (n.known name s found).stands [
    | inl none ↦ absurd (let e = none.0 in let more = some_done in omega (arith, e, more))
    | inr more ↦ more.1
        ∙ ap (λ (xs : List ℕ). Some (journal_of (header name) name log ++ xs)) (entries_end (header name) more.0)
        ∙ ap Some (append-nil (journal_of (header name) name log))
  ]

  module _ (gone : sessions' name ≡ None)
      (others : (m : List ℕ) → bytes_eq name m ≡ false → sessions' m ≡ sessions m) where
    logs : (m : List ℕ) → bytes_eq name m ≡ false → log_of (without name book) m ≡ log_of book m
    logs m b = log-without_other book name m b

    -- what was there first, with the file of the name
    abbrev first' : List ℕ → Option (List ℕ)
    first' = with_first store.first name (store.contents name)

    abbrev store' : Store
    store' = record { contents = store.contents; first = first'; honest = store.honest }

    pub forgets_held : HoldsIn limit store' sessions' (without name book)
    forgets_held = holds_but sessions sessions' book (without name book) name gone others logs limit store store' h honest
        (first_apart store.first name (store.contents name)) (λ m b. refl)
        (λ m b. known-without_other book name m b) (book_without book name h.holds.is_book)
        (known-without_same book name name (name_refl name))
        (sym (first_same store.first name (store.contents name)))

    pub forgets_noted : NotesNames (with_asleep asleep name true) header notes first' sessions' (without name book)
    forgets_noted = notes_but sessions sessions' book (without name book) name gone others logs asleep
        (with_asleep asleep name true) header header notes notes store.first first' n (asleep_apart asleep name true)
        (first_apart store.first name (store.contents name)) (λ m b. refl) (λ m b. refl)
        (λ awake. never (sym awake ∙ asleep_same asleep name true))
        (λ awake. never (sym awake ∙ asleep_same asleep name true))

    pub forgets_ordered : OrderIn header notes store.first store.contents sessions →
        OrderIn header notes first' store.contents sessions'
    forgets_ordered o = λ m x e. by_name m x e (bytes_eq name m) refl
      where
        by_name : (m : List ℕ) (x : Session) → sessions' m ≡ Some x → (b : Bool) → bytes_eq name m ≡ b →
            FileComesFirst (header m) (first' m) m x.progress.noted (NextIsCarriedOut (part_of x)) (notes m)
            (store.contents m)
        by_name m x e true b =
            no_session (sym (subst (λ (y : List ℕ). sessions' y ≡ None) (same_name name m b) gone) ∙ e)
        by_name m x e false b =
            subst (λ (y : Option (List ℕ)). FileComesFirst (header m) y m x.progress.noted (NextIsCarriedOut (part_of x))
            (notes m) (store.contents m)) (sym (first_apart store.first name (store.contents name) m b))
            (o m x (sym (others m b) ∙ e))
