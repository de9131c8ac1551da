-- A name comes into a table, with what was kept of its take.
use Rattle.std.proofs.Common.{◌≡◌, ℕ, ◌<◌, Bool, true, false, cond, List, [], ◌∷◌, length, take, arith}
use Rattle.std.proofs.Common.{Option, Some, None, refl, sym, ◌∙◌, ap, subst, inl, inr, ◌||◌}
use Rattle.std.specs.Prelude.{IsTrue, is_some}
use Rattle.std.specs.Str.{bytes_eq}
use Rattle.std.proofs.lemmas.List.{append-nil}
use Rattle.bw_model.specs.Take.{Parts, Request, Verdict, parts}
use Rattle.bw_model.specs.File.{file_of}
use Rattle.bw_model.specs.Book.{Log, Book, log_of, is_known, made}
use Rattle.bw_model.specs.BookRules.{IsBook, IsLog}
use Rattle.bw_model.specs.CountedTurn.{is_pending}
use Rattle.bw_model.specs.Turn.{most_takes}
use Rattle.bw_model.specs.Holds.{Store, finished_from}
use Rattle.bw_model.proofs.BookLemmas.{same_name, name_refl}
use Rattle.bw_file.specs.GrowingFiles.{Growing}
use Rattle.bw_journal.specs.JournalHeaders.{Header}
use Rattle.bw_journal.specs.NotedJournals.{AdmitsDone, journal_of}
use Rattle.bw_journal.specs.Replays.{Story}
use Rattle.bw_journal.proofs.RecoveryLaws.{finished-length}
use Rattle.bw_journal.proofs.Taken.{taken-made, taken_reported}
use Rattle.bw_session.specs.DoneNumbers.{KeepsDone}
use Rattle.bw_session.specs.NotedNames.{NotesNames}
use Rattle.bw_session.specs.NameNotes.{IsNoted}
use Rattle.bw_session.specs.Prefixes.{take_done, FileFollows}
use Rattle.bw_session.specs.TableChanges.{with_first}
use Rattle.bw_session.specs.ResumedSessions.{ResumesFrom}
use Rattle.bw_session.specs.Servers.{HoldsIn}
use Rattle.bw_session.specs.Sessions.{HoldsLog, part_of}
use Rattle.bw_session.specs.TableChanges.{with_asleep, IsOfLog}
use Rattle.bw_session.specs.WriteOrders.{FileComesFirst, NextIsCarriedOut}
use Rattle.bw_session.specs.declared.kept_take.KeptTake.{KeptTake}
use Rattle.bw_session.specs.declared.session.Session.{Session}
use Rattle.bw_session.proofs.ForgetLaws.{first_same, first_apart, asleep_apart}
use Rattle.bw_session.proofs.JournalForms.{OrderIn, notes_after, order_after}
use Rattle.bw_session.proofs.NewForms.{resumed_part, at-past}
use Rattle.bw_session.proofs.OrderForms.{not_short}
use Rattle.bw_session.proofs.OrderSteps.{quiet_ends}
use Rattle.bw_session.proofs.ResumeForms.{all_fit, digests_kept, unpacked_table}
use Rattle.bw_session.proofs.OtherForms.{holds_but, notes_but, apart_from}
use Rattle.bw_session.proofs.ServerForms.{holds_after, unknown_here}

no_session : {A : Type 0} {s : Session} → None ≡ Some s → A
no_session e = cc

-- What is made of a take that was kept.
module _ (limit : ℕ) (log : Log) (h : Header) (k : KeptTake) (notes file : Option (List ℕ)) (s : Session)
    (from : ResumesFrom limit k s) where
  -- the file of a name with this under it at the start
  follows : (o : Option (List ℕ)) → IsOfLog limit o log h k notes file →
      FileFollows o (take_done o log) s.progress.growing file
  follows None is = record {
    whole = is.file_is
        ∙ ap (file_of (made false log.admitted log.done)) (sym (ap (λ (g : Growing). g.limit) from.growing));
    made_here = ap (λ (g : Growing). g.made) from.growing ∙ is.made;
    level = ap (λ (g : Growing). g.ahead) from.growing;
  }
  follows (Some bytes) is = (
    is.file_is,
    ap (λ (g : Growing). g.made) from.growing ∙ is.made,
    ap (λ (g : Growing). g.ahead) from.growing,
  )

  module _ (first : Option (List ℕ)) (is : IsOfLog limit first log h k notes file) where
    admits : AdmitsDone log
    admits =
        let all = all_fit log.admitted log.done is.is_log.all_done is.is_log.fits in
        record { long = all.0; each = all.1 }

    state_is : s.progress.state.parts ≡ parts (made (is_some first) log.admitted log.done)
    state_is =
        from.state ∙ ap (λ (x : Story). x.parts) is.story
        ∙ ap (λ (v : Bool). parts (made v log.admitted log.done)) is.existed

    abbrev outcomes : List (List ℕ × Verdict)
    outcomes = finished_from (is_some first) log.admitted k.name 0 (take log.done log.admitted)

    outcomes_are : s.progress.ledger.outcomes ≡ outcomes
    outcomes_are =
        from.outcomes
        ∙ unpacked_table k.replayed.table.items
        (finished_from h.existed log.admitted k.name 0 (take log.done log.admitted))
        (ap (λ (x : Story). x.table) is.story)
        (digests_kept h.existed log.admitted k.name 0 (take log.done log.admitted))
        ∙ ap (λ (v : Bool). finished_from v log.admitted k.name 0 (take log.done log.admitted)) is.existed

    long : length outcomes ≡ log.done
    long =
        finished-length (is_some first) log.admitted k.name 0 (take log.done log.admitted) admits.each ∙ admits.long

    owner : s.progress.growing.name ≡ k.name
    owner = ap (λ (g : Growing). g.name) from.growing

    taken_is : s.progress.state.parts.taken ≡ is_some first
    taken_is = ap (λ (p : Parts). p.taken) state_is ∙ taken-made (is_some first) log.admitted log.done

    keeps : KeepsDone (is_some first) s.progress.growing.name log s.progress.state.parts s.progress.ledger.outcomes
    keeps = record {
      done = ap length outcomes_are ∙ long;
      finished_are = outcomes_are
          ∙ ap (λ (x : List ℕ). finished_from (is_some first) log.admitted x 0 (take log.done log.admitted)) (sym owner);
      state_is = state_is
          ∙ ap (λ (v : Bool). record (parts (made (is_some first) log.admitted log.done)) { taken = v })
          (taken-made (is_some first) log.admitted log.done ∙ sym taken_is);
      taken = λ t. sym taken_is ∙ t;
      reported = λ m below e. taken_is ∙ taken_reported (is_some first) log.admitted m e;
    }

    pub kept_part : HoldsLog first log (part_of s) file
    kept_part = resumed_part first log s.progress.state.parts s.progress.ledger.outcomes s.progress.growing file
        (record { fits = is.is_log.fits; all = is.all }) (ap (λ (g : Growing). g.dirty) from.growing) keeps
        (follows first is) s.window from.window

    pub kept_noted : IsNoted h k.name log s.progress.noted notes
    kept_noted = record {
      offset_is = from.noted ∙ ap (λ (x : Story). x.used) is.story;
      stands = inr (0, is.notes_are ∙ ap Some (sym (append-nil (journal_of h k.name log))));
    }

    -- nothing of it waits
    pub kept_quiet : is_pending log ≡ false
    kept_quiet = ap (λ (o : Option Request). is_some o) (at-past log.admitted log.done is.all)

    pub kept_order : FileComesFirst h first k.name s.progress.noted (NextIsCarriedOut (part_of s)) notes file
    kept_order = record {
      begun = λ short. absurd (not_short h k.name log [] notes
          (is.notes_are ∙ ap Some (sym (append-nil (journal_of h k.name log)))) short);
      entered = inl (quiet_ends h k.name log s.progress.noted notes kept_noted kept_quiet);
    }

-- The name comes into the table of a server.
module _ (limit : ℕ) (store : Store) (sessions sessions' : List ℕ → Option Session) (book : Book)
    (held : HoldsIn limit store sessions book) (honest : IsTrue store.honest) (asleep : List ℕ → Bool)
    (header : List ℕ → Header) (notes : List ℕ → Option (List ℕ))
    (n : NotesNames asleep header notes store.first sessions book) (k : KeptTake) (first : Option (List ℕ)) (log : Log)
    (s : Session) (fresh : sessions k.name ≡ None) (from : ResumesFrom limit k s)
    (is : IsOfLog limit first log (header k.name) k (notes k.name) (store.contents k.name))
    (sets : (m : List ℕ) → sessions' m ≡ cond (bytes_eq k.name m) (Some s) (sessions m)) where
  abbrev name : List ℕ
  name = k.name

  unknown : is_known book name ≡ false
  unknown = unknown_here limit store sessions book held honest name fresh

  -- the book with the name
  abbrev with_name : Book
  with_name = (name, log) ∷ book

  known : is_known with_name name ≡ true
  known = ap (λ (v : Bool). v || is_known book name) (name_refl name)

  log_is : log_of with_name name ≡ log
  log_is = ap (λ (v : Bool). cond v log (log_of book name)) (name_refl name)

  knows : (m : List ℕ) → bytes_eq name m ≡ false → is_known with_name m ≡ is_known book m
  knows m b = ap (λ (v : Bool). v || is_known book m) b

  logs : (m : List ℕ) → bytes_eq name m ≡ false → log_of with_name m ≡ log_of book m
  logs m b = ap (λ (v : Bool). cond v log (log_of book m)) b

  is_book : length book < most_takes → IsBook with_name
  is_book place = record {
    once = (unknown, held.holds.is_book.once);
    logs = λ m which. by_name m which (bytes_eq name m) refl;
    few = omega (arith, place);
  }
    where
      by_name : (m : List ℕ) → IsTrue (is_known with_name m) → (b : Bool) → bytes_eq name m ≡ b →
          IsLog (log_of with_name m)
      by_name m which true b = subst IsLog (sym (ap (λ (v : Bool). cond v log (log_of book m)) b)) is.is_log
      by_name m which false b = subst IsLog (sym (logs m b)) (held.holds.is_book.logs m (sym (knows m b) ∙ which))

  -- what was there first, and there under the name
  abbrev first' : List ℕ → Option (List ℕ)
  first' = with_first store.first name first

  abbrev between : Store
  between = record { contents = with_first store.contents name first; first = first'; honest = store.honest }

  abbrev store' : Store
  store' = record { contents = store.contents; first = first'; honest = store.honest }

  pub inserts_held : length book < most_takes → HoldsIn limit store' sessions' with_name
  inserts_held place =
      holds_after limit between store' sessions sessions' book with_name
      (holds_but sessions sessions book book name fresh (λ m b. refl) (λ m b. refl) limit store between held honest
      (first_apart store.first name first) (first_apart store.contents name first) (λ m b. refl) held.holds.is_book unknown
      (first_same store.contents name first ∙ sym (first_same store.first name first)))
      honest name s log (is_book place) known log_is knows logs sets refl
      (λ m apart. sym (first_apart store.contents name first m (apart_from name m apart)))
      (ap (λ (g : Growing). g.name) from.growing) (ap (λ (g : Growing). g.limit) from.growing)
      (subst (λ (o : Option (List ℕ)). HoldsLog o log (part_of s) (store.contents name))
      (sym (first_same store.first name first))
      (kept_part limit log (header name) k (notes name) (store.contents name) s from first is))

  pub inserts_noted : NotesNames (with_asleep asleep name false) header notes first' sessions' with_name
  inserts_noted =
      notes_after (with_asleep asleep name false) header header (with_first notes name None) notes first' sessions sessions'
      book with_name name s log
      (notes_but sessions sessions book book name fresh (λ m b. refl) (λ m b. refl) asleep (with_asleep asleep name false)
      header header notes (with_first notes name None) store.first first' n (asleep_apart asleep name false)
      (first_apart store.first name first) (λ m b. refl) (first_apart notes name None)
      (λ awake. inl (first_same notes name None))
      (λ awake. is.existed ∙ sym (ap is_some (first_same store.first name first))))
      (λ m. refl)
      (λ m apart. sym (first_apart notes name None m (apart_from name m apart)))
      sets log_is logs
      (kept_noted limit log (header name) k (notes name) (store.contents name) s from first is)

  pub inserts_ordered : OrderIn header notes store.first store.contents sessions →
      OrderIn header notes first' store.contents sessions'
  inserts_ordered o =
      order_after header header notes notes first' store.contents store.contents sessions sessions' name s
      (λ m x e. by_name m x e (bytes_eq name m) refl) (λ m. refl) (λ m apart. refl) (λ m apart. refl) sets
      (subst (λ (y : Option (List ℕ)). FileComesFirst (header name) y name s.progress.noted (NextIsCarriedOut (part_of s))
      (notes name) (store.contents name)) (sym (first_same store.first name first))
      (kept_order limit log (header name) k (notes name) (store.contents name) s from first is))
    where
      by_name : (m : List ℕ) (x : Session) → sessions m ≡ Some x → (b : Bool) → bytes_eq name m ≡ b →
          FileComesFirst (header m) (first' m) m x.progress.noted (NextIsCarriedOut (part_of x)) (notes m)
          (store.contents m)
      by_name m x e true b =
          no_session (sym (subst (λ (y : List ℕ). sessions y ≡ None) (same_name name m b) fresh) ∙ e)
      by_name m x e false b =
          subst (λ (y : Option (List ℕ)). FileComesFirst (header m) y m x.progress.noted (NextIsCarriedOut (part_of x))
          (notes m) (store.contents m)) (sym (first_apart store.first name first m b)) (o m x e)
