-- Servers that forget a name, or get one.
use Rattle.std.proofs.Common.{◌≡◌, ℕ, ◌<◌, ◌+◌, Bool, true, false, cond, List, ◌∷◌, length, arith, ◌&&◌}
use Rattle.std.proofs.Common.{Option, Some, None, refl, sym, ◌∙◌, ap, subst}
use Rattle.std.specs.Prelude.{◌==◌, IsTrue, is_some, nat_lt, option_map}
use Rattle.std.specs.Option.{option_map_or}
use Rattle.std.specs.HashMap.{IsUnique, hash_map_len}
use Rattle.std.specs.Str.{bytes_eq}
use Rattle.std.proofs.lemmas.Bool.{and_parts, eqb-true, ltb-true}
use Rattle.bw_model.specs.Book.{Book, log_of, is_known}
use Rattle.bw_model.specs.Holds.{Store, Holds}
use Rattle.bw_model.specs.Turn.{most_takes}
use Rattle.bw_model.proofs.BookLemmas.{same_name}
use Rattle.bw_store.specs.declared.store.TakeStore.{Ghosts as StoreGhosts}
use Rattle.bw_journal.specs.declared.journal.Journal.{Ghosts as JournalGhosts}
use Rattle.bw_journal.specs.Stops.{without}
use Rattle.bw_session.specs.Books.{HoldsBook, NotesAwake, count_waiting}
use Rattle.bw_session.specs.NotedNames.{NotesNames}
use Rattle.bw_session.specs.TableChanges.{with_first, KeepsOtherNames}
use Rattle.bw_session.specs.ResumedSessions.{ResumesFrom}
use Rattle.bw_session.specs.Servers.{HoldsIn, kept_by, store_since}
use Rattle.bw_session.specs.TableChanges.{is_forgettable, is_forgettable_in, with_asleep, ForgetsBook, ForgetsNow}
use Rattle.bw_session.specs.TableChanges.{InsertsNow}
use Rattle.bw_session.specs.Tables.{session_in}
use Rattle.bw_session.specs.Windows.{count_held}
use Rattle.bw_session.specs.declared.kept_take.KeptTake.{KeptTake}
use Rattle.bw_session.specs.declared.session.Session.{Session}
use Rattle.bw_session.specs.declared.server.Server.{Server}
use Rattle.bw_session.proofs.CountForms.{counted}
use Rattle.bw_session.proofs.ForgetLaws.{waits_not, some_done, file_whole, journal_whole, forgets_held, forgets_noted}
use Rattle.bw_session.proofs.ForgetLaws.{forgets_ordered}
use Rattle.bw_session.proofs.InsertLaws.{inserts_held, inserts_noted, inserts_ordered}
use Rattle.bw_session.proofs.JournalForms.{OrderIn}
use Rattle.bw_session.proofs.ReportForms.{done_reported, held_reported}

never : {A : Type 0} → false ≡ true → A
never e = absurd cc

-- whether a name may be forgotten, as the book says it
pub forgettable_reported : (limit : ℕ) (store : Store) (sessions : List ℕ → Option Session) (book : Book)
    (h : Holds limit store (λ n. option_map kept_by (sessions n)) book) (name : List ℕ) (s : Session) →
    sessions name ≡ Some s → is_forgettable s
    ≡ (is_known book name && (count_waiting (log_of book name) == 0) && nat_lt 0 (log_of book name).done)
forgettable_reported limit store sessions book h name s found =
    ap (λ (n : ℕ). (n == 0) && nat_lt 0 (length s.progress.ledger.outcomes))
    (held_reported limit store sessions book h name s found)
    ∙ ap (λ (n : ℕ). (count_waiting (log_of book name) == 0) && nat_lt 0 n)
    (done_reported limit store sessions book h name s found)
    ∙ sym (ap (λ (b : Bool). b && (count_waiting (log_of book name) == 0) && nat_lt 0 (log_of book name).done)
    (h.names name ∙ ap (λ (o : Option Session). is_some (option_map kept_by o)) found))

module _ {X Y : Type 0} (S : StoreGhosts X) (J : JournalGhosts Y) where
  -- what is said of a server, of one over the same store and journal
  moved_held : (first : List ℕ → Option (List ℕ)) (old new : Server X Y S J) (book : Book) →
      new.limit ≡ old.limit → new.stores.store ≡ old.stores.store →
      HoldsIn old.limit (store_since S first old.stores.store) (session_in new.sessions) book → HoldsBook S J first new book
  moved_held first old new book limit store h =
      subst (λ (l : ℕ). HoldsIn l (store_since S first new.stores.store) (session_in new.sessions) book) (sym limit)
      (subst (λ (x : X). HoldsIn old.limit (store_since S first x) (session_in new.sessions) book) (sym store) h)

  moved_noted : (asleep : List ℕ → Bool) (first : List ℕ → Option (List ℕ)) (old new : Server X Y S J) (book : Book) →
      new.stores.journal ≡ old.stores.journal →
      NotesNames asleep (J.header old.stores.journal) (J.notes old.stores.journal) first (session_in new.sessions) book →
      NotesAwake S J asleep first new book
  moved_noted asleep first old new book journal n =
      subst (λ (y : Y). NotesNames asleep (J.header y) (J.notes y) first (session_in new.sessions) book) (sym journal) n

  moved_order : (first : List ℕ → Option (List ℕ)) (old new : Server X Y S J) →
      new.stores.store ≡ old.stores.store → new.stores.journal ≡ old.stores.journal →
      OrderIn (J.header old.stores.journal) (J.notes old.stores.journal) first (S.contents old.stores.store)
      (session_in new.sessions) →
      OrderIn (J.header new.stores.journal) (J.notes new.stores.journal) first (S.contents new.stores.store)
      (session_in new.sessions)
  moved_order first old new store journal o =
      subst (λ (y : Y). OrderIn (J.header y) (J.notes y) first (S.contents new.stores.store) (session_in new.sessions))
      (sym journal)
      (subst (λ (x : X). OrderIn (J.header old.stores.journal) (J.notes old.stores.journal) first (S.contents x)
      (session_in new.sessions)) (sym store) o)

  pub forgets_now : (old new : Server X Y S J) (name : List ℕ) → KeepsOtherNames S J name old new →
      is_forgettable_in old.sessions name ≡ true → session_in new.sessions name ≡ None →
      new.stores.journal ≡ old.stores.journal → hash_map_len new.sessions + 1 ≡ hash_map_len old.sessions →
      ForgetsNow S J name old new
  forgets_now old new name keeps ready gone journal fewer = record {
    gone = gone;
    others = keeps;
    journal = journal;
    fewer = fewer;
    forgets = λ honest honest_notes asleep first book h n.
        go honest asleep first book h n (session_in old.sessions name) refl ready;
  }
    where
      by_session : IsTrue (S.honest old.stores.store) → (asleep : List ℕ → Bool) (first : List ℕ → Option (List ℕ))
          (book : Book) → HoldsBook S J first old book → NotesAwake S J asleep first old book → (s : Session) →
          session_in old.sessions name ≡ Some s → count_held s.window ≡ 0 → 0 < length s.progress.ledger.outcomes →
          ForgetsBook S J asleep first name old new book
      by_session honest asleep first book h n s found quiet some =
          let limit : ℕ = old.limit in
          let store : Store = store_since S first old.stores.store in
          let header = J.header old.stores.journal in
          let notes = J.notes old.stores.journal in
          let now : List ℕ → Option (List ℕ) = with_first first name (S.contents old.stores.store name) in
          record {
            quiet = waits_not limit store (session_in old.sessions) (session_in new.sessions) book h honest asleep header
                notes n name s found quiet some;
            some_done = some_done limit store (session_in old.sessions) (session_in new.sessions) book h honest asleep
                header notes n name s found quiet some;
            journal = journal_whole limit store (session_in old.sessions) (session_in new.sessions) book h honest asleep
                header notes n name s found quiet some;
            file = file_whole limit store (session_in old.sessions) (session_in new.sessions) book h honest asleep header
                notes n name s found quiet some;
            held = moved_held now old new (without name book) keeps.limit keeps.store
                (forgets_held limit store (session_in old.sessions) (session_in new.sessions) book h honest asleep header
                notes n name s found quiet some gone keeps.others);
            noted = moved_noted (with_asleep asleep name true) now old new (without name book) journal
                (forgets_noted limit store (session_in old.sessions) (session_in new.sessions) book h honest asleep header
                notes n name s found quiet some gone keeps.others);
            ordered = λ o. moved_order now old new keeps.store journal
                (forgets_ordered limit store (session_in old.sessions) (session_in new.sessions) book h honest asleep header
                notes n name s found quiet some gone keeps.others o);
          }

      go : IsTrue (S.honest old.stores.store) → (asleep : List ℕ → Bool) (first : List ℕ → Option (List ℕ))
          (book : Book) → HoldsBook S J first old book → NotesAwake S J asleep first old book → (o : Option Session) →
          session_in old.sessions name ≡ o → option_map_or is_forgettable o false ≡ true →
          ForgetsBook S J asleep first name old new book
      go honest asleep first book h n None found e = never e
      go honest asleep first book h n (Some s) found e =
          let both = and_parts (count_held s.window == 0) (nat_lt 0 (length s.progress.ledger.outcomes)) e in
          by_session honest asleep first book h n s found (eqb-true (count_held s.window) 0 both.0)
          (ltb-true 0 (length s.progress.ledger.outcomes) both.1)

  pub inserts_now : (old new : Server X Y S J) (k : KeptTake) (s : Session) → KeepsOtherNames S J k.name old new →
      session_in old.sessions k.name ≡ None → IsUnique bytes_eq old.sessions →
      hash_map_len old.sessions < most_takes → session_in new.sessions k.name ≡ Some s →
      ResumesFrom old.limit k s → new.stores.journal ≡ old.stores.journal →
      hash_map_len new.sessions ≡ hash_map_len old.sessions + 1 → InsertsNow S J k old new
  inserts_now old new k s keeps fresh unique place found from journal more = record {
    here = ap (λ (o : Option Session). is_some o) found;
    others = keeps;
    journal = journal;
    more = more;
    inserts = λ honest honest_notes asleep now book first log h n is.
        let limit : ℕ = old.limit in
        let store : Store = store_since S now old.stores.store in
        let header = J.header old.stores.journal in
        let notes = J.notes old.stores.journal in
        let later : List ℕ → Option (List ℕ) = with_first now k.name first in
        let many = counted old.sessions book unique h.holds.is_book old.table.few h.holds.names in
        record {
          held = moved_held later old new ((k.name, log) ∷ book) keeps.limit keeps.store
              (inserts_held limit store (session_in old.sessions) (session_in new.sessions) book h honest asleep header
              notes n k first log s fresh from is sets (omega (arith, many, place)));
          noted = moved_noted (with_asleep asleep k.name false) later old new ((k.name, log) ∷ book) journal
              (inserts_noted limit store (session_in old.sessions) (session_in new.sessions) book h honest asleep header
              notes n k first log s fresh from is sets);
          ordered = λ o. moved_order later old new keeps.store journal
              (inserts_ordered limit store (session_in old.sessions) (session_in new.sessions) book h honest asleep header
              notes n k first log s fresh from is sets o);
        };
  }
    where
      sets : (m : List ℕ) → session_in new.sessions m ≡ cond (bytes_eq k.name m) (Some s) (session_in old.sessions m)
      sets m = go (bytes_eq k.name m) refl
        where
          go : (b : Bool) → bytes_eq k.name m ≡ b →
              session_in new.sessions m ≡ cond b (Some s) (session_in old.sessions m)
          go true e = ap (session_in new.sessions) (sym (same_name k.name m e)) ∙ found
          go false e = keeps.others m e

-- a table that a name that may be forgotten has left has one name less
pub one_fewer : (o r : Option Session) (before after : ℕ) → r ≡ o → option_map_or is_forgettable o false ≡ true →
    after + cond (is_some r) 1 0 ≡ before → after + 1 ≡ before
one_fewer None r before after e ready len = never ready
one_fewer (Some s) r before after e ready len =
    ap (λ (x : Option Session). after + cond (is_some x) 1 0) (sym e) ∙ len
