-- A frame is answered as its name was found.
use Rattle.std.proofs.Common.{◌≡◌, ◌⊎◌, inl, inr, ℕ, Bool, true, false, ◌||◌, not, List, Option, Some, None}
use Rattle.std.proofs.Common.{refl, sym, ◌∙◌, ap, subst}
use Rattle.std.specs.Prelude.{IsTrue, IsSome, is_some, option_map}
use Rattle.std.specs.Str.{bytes_eq}
use Rattle.bw_model.specs.Book.{Book, log_of, is_known}
use Rattle.bw_model.specs.Replies.{Reply}
use Rattle.bw_model.specs.Wire.{Message, Frame, Says, Asks, Bye, is_name}
use Rattle.bw_model.proofs.BookLemmas.{name_refl}
use Rattle.bw_store.specs.declared.store.TakeStore.{Ghosts as StoreGhosts}
use Rattle.bw_journal.specs.declared.journal.Journal.{Ghosts as JournalGhosts}
use Rattle.bw_session.specs.Books.{failures_of, NotesAwake, OrdersBook}
use Rattle.bw_session.specs.NotedNames.{IsAwakeFor}
use Rattle.bw_session.specs.SeenServers.{session_kept}
use Rattle.bw_session.specs.Servers.{kept_by}
use Rattle.bw_session.specs.ServerTurns.{ServerTurn}
use Rattle.bw_session.specs.declared.session.Session.{Session}
use Rattle.bw_session.specs.declared.server.Server.{Server}
use Rattle.bw_kept.specs.FolderRuns.{name_of_frame, delay_of, may_leave, HasNoPlace, ServesFrame}
use Rattle.bw_kept.specs.FoundNames.{FindsBooks, IsWhere, KeepsFolderBooks, KeepsSessions}
use Rattle.bw_kept.specs.KeptFolders.{HoldsKept, HoldsReady}
use Rattle.bw_kept.specs.KeptTurns.{KeepsCounts, NoneMayLeave, HasPlace, KeptTurn, FolderTurns}
use Rattle.bw_kept.specs.declared.delay.Delay.{Delay}
use Rattle.bw_kept.specs.declared.finding.Found.TheVariants as found
use Rattle.bw_kept.proofs.FolderTurns.{Served, folder_served}
use Rattle.bw_kept.specs.DiskNotes.{StayCommitted}
use Rattle.bw_kept.proofs.CommitForms.{only_none, only_same}
use Rattle.bw_kept.proofs.FoundForms.{counts_none, full_same, keeps_none, stay_after}
use Rattle.bw_kept.proofs.KeptForms.{never, known_ready}

-- the name of a frame is awake
awake_for : (f : Frame) (table : Book) →
    IsAwakeFor (λ n. not (is_known table n || bytes_eq (name_of_frame f) n)) f
awake_for (Says m) table = go (is_known table m.name) (bytes_eq m.name m.name) (name_refl m.name)
  where
    go : (a b : Bool) → b ≡ true → not (a || b) ≡ false
    go true b e = refl
    go false b e = ap not e
awake_for (Asks name n) table = tt
awake_for Bye table = tt

known_some : (b : Bool) (o : Option Session) → b ≡ is_some (option_map kept_by o) → IsSome o → b ≡ true
known_some b None e some = never some
known_some b (Some s) e some = e

-- A table with the same names has no place either.
pub no_place_same : {X Y : Type 0} (S : StoreGhosts X) (J : JournalGhosts Y) (first : List ℕ → Option (List ℕ))
    (old new : Server X Y S J) (book : Book) (h : HoldsKept S J first old book) (h' : HoldsKept S J first new book) →
    KeepsSessions (session_kept old) (session_kept new) → HasNoPlace h.table → HasNoPlace h'.table
no_place_same S J first old new book h h' same none = record {
  full = full_same S J h.now h'.now old new h.table h'.table h.held h'.held same ∙ none.full;
  none = λ n known. stays n known (known_in n ∙ known);
}
  where
    known_in : (n : List ℕ) → is_known h.table n ≡ is_known h'.table n
    known_in n =
        h.held.holds.names n ∙ sym (ap (λ (o : Option Session). is_some (option_map kept_by o)) (same n))
        ∙ sym (h'.held.holds.names n)

    stays : (n : List ℕ) → is_known h'.table n ≡ true → is_known h.table n ≡ true → may_leave (log_of h'.table n) ≡ false
    stays n known' known =
        ap may_leave (sym (h'.inside n known').same_log ∙ (h.inside n known).same_log) ∙ none.none n known

module _ {X Y : Type 0} (S : StoreGhosts X) (J : JournalGhosts Y)
    (Fails : List ℕ → Server X Y S J → Server X Y S J → Type 0) (Differs : List ℕ → Server X Y S J → Type 0) where
  -- From each book of the folder a server is ready for a frame of this name.
  abbrev pub ReadiesBooks : List ℕ → Server X Y S J → Server X Y S J → Type 0
  ReadiesBooks name old ready = IsTrue (S.honest old.stores.store) → IsTrue (J.honest old.stores.journal) →
      (first : List ℕ → Option (List ℕ)) (book : Book) → HoldsKept S J first old book →
      HoldsReady S J name first ready book

  -- a frame is served, and then the files of its name are closed if it isn't in the table
  -- and of what was committed no entry is lost
  abbrev pub ReadiesCommitted : Server X Y S J → Server X Y S J → Type 0
  ReadiesCommitted old ready = IsTrue (S.honest old.stores.store) → IsTrue (J.honest old.stores.journal) →
      (first : List ℕ → Option (List ℕ)) (book : Book) → HoldsKept S J first old book →
      StayCommitted J old.limit first book old.stores.journal ready.stores.journal

  served_turn : (old ready served new : Server X Y S J) (f : Frame) (replies : List Reply) →
      IsTrue (is_name (name_of_frame f)) → KeepsCounts S J old ready →
      (IsSome (session_kept old (name_of_frame f)) → (ready ≡ old) × (new ≡ served)) →
      ReadiesBooks (name_of_frame f) old ready → ReadiesCommitted old ready → ServerTurn S J ready f replies served →
      ((m : Message) → f ≡ Says m → session_kept ready (name_of_frame f) ≡ None →
      HasPlace S J true ready ⊎ NoneMayLeave S J ready) → KeepsFolderBooks S J served new →
      KeepsSessions (session_kept served) (session_kept new) → KeptTurn S J Fails Differs old f replies new
  served_turn old ready served new f replies named counts inside books stays t place kept same = record {
    named = named;
    ready = ready;
    prepared = counts;
    served = served;
    answered = inl t;
    closed = kept.counts;
    inside = λ some. ((inside some).0, only_same S J served new (inside some).1);
    turned = turned;
  }
    where
      turned : FolderTurns S J Fails Differs old new f replies
      turned honest honest_notes first book h =
          let honest' = counts.honest ∙ honest in
          let honest_notes' = counts.honest_notes ∙ honest_notes in
          let r : HoldsReady S J (name_of_frame f) first ready book = books honest honest_notes first book h in
          let sleeps : List ℕ → Bool = λ n. not (is_known r.table n || bytes_eq (name_of_frame f) n) in
          let o = t.turned honest' r.now r.table r.held in
          let noted : NotesAwake S J sleeps r.now served o.later =
          o.noted honest_notes' sleeps (awake_for f r.table) r.noted in
          let ordered : OrdersBook S J r.now served =
          t.ordered honest' honest_notes' sleeps (awake_for f r.table) r.now r.table r.held r.noted r.ordered in
          let s : Served S J ready served f replies t first book r honest' honest_notes' =
          folder_served S J ready served f replies t first book r honest' honest_notes' noted ordered place in
          let held : HoldsKept S J first new s.later =
          kept.books (t.honest ∙ honest') (t.honest_notes ∙ honest_notes') first s.later s.held in
          record {
            later = s.later;
            held = held;
            full = s.full;
            no_place = λ full. no_place_same S J first served new s.later s.held held same (s.no_place full);
            turned = inl (subst (λ (n : ℕ). ServesFrame s.full (λ name. is_some (first name)) n (failures_of S J new) book f
                replies s.later) counts.failures
                (subst (λ (n : ℕ). ServesFrame s.full (λ name. is_some (first name)) (failures_of S J ready) n book f
                replies s.later) (sym kept.counts.failures) s.turned));
            committed = stay_after S J old.limit first book old.stores.journal served.stores.journal new.stores.journal
                (stay_after S J old.limit first book old.stores.journal ready.stores.journal served.stores.journal
                (stays honest honest_notes first book h) (t.committed honest_notes'))
                (kept.committed (t.honest_notes ∙ honest_notes'));
          }

  known_turn : (old ready new : Server X Y S J) (f : Frame) (replies : List Reply) →
      IsTrue (is_name (name_of_frame f)) → KeepsCounts S J old ready →
      (IsSome (session_kept old (name_of_frame f)) → (found.Known ≡ found.Known) × (ready ≡ old)) →
      IsWhere S J (name_of_frame f) found.Known ready →
      FindsBooks S J Fails Differs old ready (name_of_frame f) found.Known → ServerTurn S J ready f replies new →
      KeptTurn S J Fails Differs old f replies new
  known_turn old ready new f replies named counts inside there books t =
      served_turn old ready new new f replies named counts (λ some. ((inside some).1, refl)) readies
      (λ honest honest_notes first book h. (books honest honest_notes first book h).1) t
      (λ m e none. never (sym (ap is_some none) ∙ there)) (keeps_none S J new) (λ n. refl)
    where
      readies : ReadiesBooks (name_of_frame f) old ready
      readies honest honest_notes first book h =
          let k : HoldsKept S J first ready book = (books honest honest_notes first book h).0 in
          known_ready S J first ready book (name_of_frame f) k
          (known_some (is_known k.table (name_of_frame f)) (session_kept ready (name_of_frame f))
          (k.held.holds.names (name_of_frame f)) there)

  new_turn : (old ready served new : Server X Y S J) (f : Frame) (replies : List Reply) →
      IsTrue (is_name (name_of_frame f)) → KeepsCounts S J old ready →
      (IsSome (session_kept old (name_of_frame f)) → (found.New ≡ found.Known) × (ready ≡ old)) →
      FindsBooks S J Fails Differs old ready (name_of_frame f) found.New → ServerTurn S J ready f replies served →
      (HasPlace S J true ready ⊎ NoneMayLeave S J ready) → KeepsFolderBooks S J served new →
      KeepsSessions (session_kept served) (session_kept new) → KeptTurn S J Fails Differs old f replies new
  new_turn old ready served new f replies named counts inside books t place kept same =
      served_turn old ready served new f replies named counts (λ some. new_known (inside some).0)
      (λ honest honest_notes first book h. (books honest honest_notes first book h).0)
      (λ honest honest_notes first book h. (books honest honest_notes first book h).1) t (λ m e none. place)
      kept same
    where
      new_known : {A : Type 0} → found.New ≡ found.Known → A
      new_known e = cc

  put_off_turn : (delay : Delay) (old new : Server X Y S J) (f : Frame) (replies : List Reply) →
      IsTrue (is_name (name_of_frame f)) → KeepsCounts S J old new →
      (IsSome (session_kept old (name_of_frame f)) → (found.PutOff delay ≡ found.Known) × (new ≡ old)) →
      FindsBooks S J Fails Differs old new (name_of_frame f) (found.PutOff delay) → replies ≡ delay_of f →
      KeptTurn S J Fails Differs old f replies new
  put_off_turn delay old new f replies named counts inside books delayed = record {
    named = named;
    ready = new;
    prepared = counts;
    served = new;
    answered = inr (delayed, refl, none);
    closed = counts_none S J new;
    inside = λ some. ((inside some).1, only_none S J new);
    turned = turned;
  }
    where
      off_known : {d : Delay} → found.PutOff d ≡ found.Known → ⊥
      off_known e = cc

      not_inside : (o : Option Session) → (IsSome o → ⊥) → o ≡ None
      not_inside None never_some = refl
      not_inside (Some s) never_some = absurd (never_some refl)

      none : session_kept old (name_of_frame f) ≡ None
      none = not_inside (session_kept old (name_of_frame f)) (λ some. off_known (inside some).0)

      turned : FolderTurns S J Fails Differs old new f replies
      turned honest honest_notes first book h =
          let x = books honest honest_notes first book h in
          let w = x.0 in
          record {
            later = book;
            held = w.0;
            full = false;
            no_place = λ full. never full;
            turned = inr (record {
              answered = delayed;
              left = refl;
              uncounted = counts.failures;
              outside = none;
              delay = delay;
              why = w.1;
            });
            committed = x.1;
          }

  -- The same, where the name was read from the frame.

  pub known_turn_of : (old ready new : Server X Y S J) (f : Frame) (replies : List Reply) (n : List ℕ) → n ≡ name_of_frame f →
      IsTrue (is_name n) → KeepsCounts S J old ready →
      (IsSome (session_kept old n) → (found.Known ≡ found.Known) × (ready ≡ old)) →
      IsWhere S J n found.Known ready → FindsBooks S J Fails Differs old ready n found.Known →
      ServerTurn S J ready f replies new → KeptTurn S J Fails Differs old f replies new
  known_turn_of old ready new f replies n is named counts inside there books t =
      known_turn old ready new f replies (subst (λ (x : List ℕ). IsTrue (is_name x)) is named) counts
      (subst (λ (x : List ℕ). IsSome (session_kept old x) → (found.Known ≡ found.Known) × (ready ≡ old)) is inside)
      (subst (λ (x : List ℕ). IsWhere S J x found.Known ready) is there)
      (subst (λ (x : List ℕ). FindsBooks S J Fails Differs old ready x found.Known) is books) t

  pub new_turn_of : (old ready served new : Server X Y S J) (f : Frame) (replies : List Reply) (n : List ℕ) →
      n ≡ name_of_frame f → IsTrue (is_name n) → KeepsCounts S J old ready →
      (IsSome (session_kept old n) → (found.New ≡ found.Known) × (ready ≡ old)) →
      FindsBooks S J Fails Differs old ready n found.New → ServerTurn S J ready f replies served →
      (HasPlace S J true ready ⊎ NoneMayLeave S J ready) → KeepsFolderBooks S J served new →
      KeepsSessions (session_kept served) (session_kept new) → KeptTurn S J Fails Differs old f replies new
  new_turn_of old ready served new f replies n is named counts inside books t place kept same =
      new_turn old ready served new f replies (subst (λ (x : List ℕ). IsTrue (is_name x)) is named) counts
      (subst (λ (x : List ℕ). IsSome (session_kept old x) → (found.New ≡ found.Known) × (ready ≡ old)) is inside)
      (subst (λ (x : List ℕ). FindsBooks S J Fails Differs old ready x found.New) is books) t place kept same

  pub put_off_turn_of : (delay : Delay) (old new : Server X Y S J) (f : Frame) (replies : List Reply) (n : List ℕ) →
      n ≡ name_of_frame f → IsTrue (is_name n) → KeepsCounts S J old new →
      (IsSome (session_kept old n) → (found.PutOff delay ≡ found.Known) × (new ≡ old)) →
      FindsBooks S J Fails Differs old new n (found.PutOff delay) → replies ≡ delay_of f →
      KeptTurn S J Fails Differs old f replies new
  put_off_turn_of delay old new f replies n is named counts inside books delayed =
      put_off_turn delay old new f replies (subst (λ (x : List ℕ). IsTrue (is_name x)) is named) counts
      (subst (λ (x : List ℕ). IsSome (session_kept old x) → (found.PutOff delay ≡ found.Known) × (new ≡ old)) is inside)
      (subst (λ (x : List ℕ). FindsBooks S J Fails Differs old new x (found.PutOff delay)) is books) delayed
