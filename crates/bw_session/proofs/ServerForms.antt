-- A server's sessions, and the book that it holds.
use Rattle.std.proofs.Common.{◌≡◌, ◌≢◌, ℕ, ◌+◌, ◌<◌, ◌≤◌, Bool, true, false, cond, List, length, map, arith}
use Rattle.std.proofs.Common.{lt-ltb}
use Rattle.std.proofs.Common.{Option, Some, None, refl, sym, ◌∙◌, ap, subst, ◌⊎◌, inl, inr}
use Rattle.std.specs.Prelude.{Result, Ok, Err, IsOk, IfOk, OnOk, IsTrue, IsSome, is_some, option_map, unwrap_or}
use Rattle.std.specs.Option.{option_map_or}
use Rattle.std.specs.Str.{bytes_eq}
use Rattle.std.proofs.lemmas.Bool.{lt-leb, le-leb}
use Rattle.std.specs.HashMap.{hash_map_len, spare}
use Rattle.bw_model.specs.Wire.{Message, Says, Second, is_message}
use Rattle.bw_model.specs.Bytes.{at}
use Rattle.bw_model.specs.Book.{Log, Book, log_of, is_known, with_log, made}
use Rattle.bw_model.specs.BookRules.{IsBook}
use Rattle.bw_model.specs.CountedTurn.{IsTurn, IsWithoutRoom, is_pending}
use Rattle.bw_model.specs.Turn.{Faults, good, turn, turn_by, is_full, is_admissible, notice, with_change, window}
use Rattle.bw_model.specs.Turn.{most_takes}
use Rattle.bw_model.specs.Counts.{Counts}
use Rattle.bw_model.specs.Replies.{Reply as ModelReply, Notice, TooFar, TableFull, NoRoom}
use Rattle.bw_model.proofs.BookLaws.{turns_keep_books}
use Rattle.bw_model.specs.Holds.{Store, Kept, HoldsName, HasFile}
use Rattle.bw_model.proofs.BookLemmas.{same_name, name_refl, log-with_log_same, log-with_log_other}
use Rattle.bw_model.proofs.BookLemmas.{known-with_log_same, known-with_log_other, unknown_log}
use Rattle.bw_store.specs.Stores.{KeepsOthers}
use Rattle.bw_session.specs.Drains.{NameStands}
use Rattle.bw_session.specs.Sessions.{HoldsLog, part_of}
use Rattle.bw_wire.specs.declared.reply.Reply.{Reply}
use Rattle.bw_wire.specs.Replies.{reply_of}
use Rattle.bw_session.specs.ServedMessages.{Answers}
use Rattle.bw_session.specs.Tables.{Table, IsTable, session_in}
use Rattle.bw_session.specs.Prefixes.{StandsAhead}
use Rattle.bw_session.specs.Servers.{HoldsIn, kept_by}
use Rattle.bw_session.specs.declared.session.Session.{Session}
use Rattle.bw_session.proofs.AdmitForms.{no_false}

no_kept : {A : Type 0} {k : Kept} → None ≡ Some k → A
no_kept e = cc

some_kept : {a b : Kept} → Some a ≡ Some b → a ≡ b
some_kept e = cc

pub apart_names : (x y : List ℕ) → bytes_eq x y ≡ false → y ≢ x
apart_names x y e same = no_false (sym e ∙ ap (bytes_eq x) same ∙ name_refl x)

-- what is under a name where a session was put
pub put_here : (sessions sessions' : List ℕ → Option Session) (name : List ℕ) (s : Session) →
    ((n : List ℕ) → sessions' n ≡ cond (bytes_eq name n) (Some s) (sessions n)) → sessions' name ≡ Some s
put_here sessions sessions' name s sets =
    sets name ∙ ap (λ (v : Bool). cond v (Some s) (sessions name)) (name_refl name)

-- what a server that holds a book holds of one name
module _ (limit : ℕ) (store : Store) (sessions : List ℕ → Option Session) (book : Book)
    (h : HoldsIn limit store sessions book) (honest : IsTrue store.honest)
    (name : List ℕ) where
  pub known_here : (s : Session) → sessions name ≡ Some s → is_known book name ≡ true
  known_here s e = h.holds.names name ∙ ap (λ (o : Option Session). is_some (option_map kept_by o)) e

  pub unknown_here : sessions name ≡ None → is_known book name ≡ false
  unknown_here e = h.holds.names name ∙ ap (λ (o : Option Session). is_some (option_map kept_by o)) e

  pub part_here : (s : Session) → sessions name ≡ Some s → s.progress.growing.name ≡ name →
      s.progress.growing.limit ≡ limit → HoldsLog (store.first name) (log_of book name) (part_of s) (store.contents name)
  part_here s e named limited = record {
    fits = (h.holds.is_book.logs name (known_here s e)).fits;
    memory = subst (λ (n : List ℕ). HoldsName (is_some (store.first name)) n (log_of book name) (kept_by s)) (sym named)
        (h.holds.each name (kept_by s) kept);
    file = go (store.first name) refl;
    ahead = h.ahead honest name s e;
  }
    where
      kept : option_map kept_by (sessions name) ≡ Some (kept_by s)
      kept = ap (option_map kept_by) e

      go : (o : Option (List ℕ)) → store.first name ≡ o →
          NameStands o (log_of book name) s.progress.growing.limit (kept_by s) (store.contents name)
      go None is =
          subst (λ (n : ℕ). NameStands None (log_of book name) n (kept_by s) (store.contents name)) (sym limited)
          (h.holds.files honest name (kept_by s) kept is)
      go (Some bytes) is = (
        h.holds.others honest name (inl (ap is_some is)) ∙ is,
        h.holds.theirs honest name (kept_by s) kept (ap is_some is),
      )

-- a server that changed under one name alone
module _ (limit : ℕ) (store store' : Store) (sessions sessions' : List ℕ → Option Session) (book later : Book)
    (h : HoldsIn limit store sessions book) (honest : IsTrue store.honest)
    (name : List ℕ) (s : Session) (log : Log) where
  pub holds_after : IsBook later → is_known later name ≡ true → log_of later name ≡ log →
      ((n : List ℕ) → bytes_eq name n ≡ false → is_known later n ≡ is_known book n) →
      ((n : List ℕ) → bytes_eq name n ≡ false → log_of later n ≡ log_of book n) →
      ((n : List ℕ) → sessions' n ≡ cond (bytes_eq name n) (Some s) (sessions n)) →
      store'.first ≡ store.first → KeepsOthers store.contents store'.contents name →
      s.progress.growing.name ≡ name → s.progress.growing.limit ≡ limit →
      HoldsLog (store'.first name) log (part_of s) (store'.contents name) →
      HoldsIn limit store' sessions' later
  holds_after is_book known log_is others_known others_log sets same_first keeps named limited part = record {
    holds = record {
      is_book = is_book;
      names = λ n. names n (bytes_eq name n) refl;
      each = λ n k e. each n k e (bytes_eq name n) refl;
      others = λ x n which. others n which (bytes_eq name n) refl;
      theirs = λ x n k e some. theirs n k e some (bytes_eq name n) refl;
      files = λ x n k e none. files n k e none (bytes_eq name n) refl;
    };
    ahead = λ x n t e. ahead n t e (bytes_eq name n) refl;
  }
    where
      -- what is kept under each name
      kept_same : (n : List ℕ) → bytes_eq name n ≡ true → option_map kept_by (sessions' n) ≡ Some (kept_by s)
      kept_same n e = ap (option_map kept_by) (sets n ∙ ap (λ (b : Bool). cond b (Some s) (sessions n)) e)

      kept_other : (n : List ℕ) → bytes_eq name n ≡ false →
          option_map kept_by (sessions' n) ≡ option_map kept_by (sessions n)
      kept_other n e = ap (option_map kept_by) (sets n ∙ ap (λ (b : Bool). cond b (Some s) (sessions n)) e)

      kept_is : (n : List ℕ) (k : Kept) → option_map kept_by (sessions' n) ≡ Some k → bytes_eq name n ≡ true →
          kept_by s ≡ k
      kept_is n k e b = some_kept (sym (kept_same n b) ∙ e)

      content_other : (n : List ℕ) → bytes_eq name n ≡ false → store'.contents n ≡ store.contents n
      content_other n e = keeps n (apart_names name n e)

      first_same : (n : List ℕ) → store'.first n ≡ store.first n
      first_same n = ap (λ (f : List ℕ → Option (List ℕ)). f n) same_first

      names : (n : List ℕ) (b : Bool) → bytes_eq name n ≡ b →
          is_known later n ≡ is_some (option_map kept_by (sessions' n))
      names n true e =
          ap (is_known later) (sym (same_name name n e)) ∙ known ∙ sym (ap is_some (kept_same n e))
      names n false e = others_known n e ∙ h.holds.names n ∙ sym (ap is_some (kept_other n e))

      each : (n : List ℕ) (k : Kept) → option_map kept_by (sessions' n) ≡ Some k → (b : Bool) → bytes_eq name n ≡ b →
          HoldsName (is_some (store'.first n)) n (log_of later n) k
      each n k e true b =
          subst (λ (x : List ℕ). HoldsName (is_some (store'.first x)) x (log_of later x) k) (same_name name n b)
          (subst (λ (x : Kept). HoldsName (is_some (store'.first name)) name (log_of later name) x) (kept_is n k e b)
          (subst (λ (l : Log). HoldsName (is_some (store'.first name)) name l (kept_by s)) (sym log_is)
          (subst (λ (x : List ℕ). HoldsName (is_some (store'.first name)) x log (kept_by s)) named part.memory)))
      each n k e false b =
          subst (λ (l : Log). HoldsName (is_some (store'.first n)) n l k) (sym (others_log n b))
          (subst (λ (o : Option (List ℕ)). HoldsName (is_some o) n (log_of book n) k) (sym (first_same n))
          (h.holds.each n k (sym (kept_other n b) ∙ e)))

      ahead : (n : List ℕ) (t : Session) → sessions' n ≡ Some t → (b : Bool) → bytes_eq name n ≡ b →
          StandsAhead (store'.first n) (log_of later n) t.progress.growing (store'.contents n)
      ahead n t e true b =
          subst (λ (x : List ℕ). StandsAhead (store'.first x) (log_of later x) t.progress.growing (store'.contents x))
          (same_name name n b)
          (subst (λ (x : Session). StandsAhead (store'.first name) (log_of later name) x.progress.growing
          (store'.contents name))
          (some_session (sym (sets n ∙ ap (λ (v : Bool). cond v (Some s) (sessions n)) b) ∙ e))
          (subst (λ (l : Log). StandsAhead (store'.first name) l s.progress.growing (store'.contents name))
          (sym log_is) part.ahead))
        where
          some_session : {x y : Session} → Some x ≡ Some y → x ≡ y
          some_session e = cc
      ahead n t e false b =
          subst (λ (l : Log). StandsAhead (store'.first n) l t.progress.growing (store'.contents n))
          (sym (others_log n b))
          (subst (λ (o : Option (List ℕ)). StandsAhead o (log_of book n) t.progress.growing (store'.contents n))
          (sym (first_same n))
          (subst (λ (o : Option (List ℕ)). StandsAhead (store.first n) (log_of book n) t.progress.growing o)
          (sym (content_other n b))
          (h.ahead honest n t (sym (sets n ∙ ap (λ (v : Bool). cond v (Some s) (sessions n)) b) ∙ e))))

      -- what the store has of it
      file_here : (o : Option (List ℕ)) → store'.first name ≡ o →
          NameStands o log s.progress.growing.limit (kept_by s) (store'.contents name)
      file_here o e =
          subst (λ (x : Option (List ℕ)). NameStands x log s.progress.growing.limit (kept_by s) (store'.contents name)) e
          part.file

      others : (n : List ℕ) → IsSome (store'.first n) ⊎ (is_known later n ≡ false) → (b : Bool) →
          bytes_eq name n ≡ b → store'.contents n ≡ store'.first n
      others n which true b =
          subst (λ (x : List ℕ). store'.contents x ≡ store'.first x) (same_name name n b)
          (existed (store'.first name) refl (elim which [
            | inl some ↦ ap (λ (x : List ℕ). is_some (store'.first x)) (same_name name n b) ∙ some
            | inr unknown ↦ no_false (sym unknown ∙ ap (is_known later) (sym (same_name name n b)) ∙ known)
          ]))
        where
          existed : (o : Option (List ℕ)) → store'.first name ≡ o → is_some (store'.first name) ≡ true →
              store'.contents name ≡ store'.first name
          existed None e some = no_false (sym (ap is_some e) ∙ some)
          existed (Some bytes) e some = (file_here (Some bytes) e).0 ∙ sym e
      others n which false b =
          content_other n b
          ∙ h.holds.others honest n (elim which [
            | inl some ↦ inl (sym (ap is_some (first_same n)) ∙ some)
            | inr unknown ↦ inr (sym (others_known n b) ∙ unknown)
          ])
          ∙ sym (first_same n)

      theirs : (n : List ℕ) (k : Kept) → option_map kept_by (sessions' n) ≡ Some k → IsSome (store'.first n) →
          (b : Bool) → bytes_eq name n ≡ b → k.has_made ≡ false
      theirs n k e some true b =
          ap (λ (x : Kept). x.has_made) (sym (kept_is n k e b)) ∙ existed (store'.first name) refl
          (ap (λ (x : List ℕ). is_some (store'.first x)) (same_name name n b) ∙ some)
        where
          existed : (o : Option (List ℕ)) → store'.first name ≡ o → is_some (store'.first name) ≡ true →
              s.progress.growing.made ≡ false
          existed None e some = no_false (sym (ap is_some e) ∙ some)
          existed (Some bytes) e some = (file_here (Some bytes) e).1
      theirs n k e some false b =
          h.holds.theirs honest n k (sym (kept_other n b) ∙ e) (sym (ap is_some (first_same n)) ∙ some)

      files : (n : List ℕ) (k : Kept) → option_map kept_by (sessions' n) ≡ Some k → store'.first n ≡ None →
          (b : Bool) → bytes_eq name n ≡ b → HasFile (made false (log_of later n).admitted (log_of later n).done) limit
          (at (log_of later n).admitted (log_of later n).done) k (store'.contents n)
      files n k e none true b =
          subst (λ (x : List ℕ). HasFile (made false (log_of later x).admitted (log_of later x).done) limit
          (at (log_of later x).admitted (log_of later x).done) k (store'.contents x)) (same_name name n b)
          (subst (λ (x : Kept). HasFile (made false (log_of later name).admitted (log_of later name).done) limit
          (at (log_of later name).admitted (log_of later name).done) x (store'.contents name)) (kept_is n k e b)
          (subst (λ (l : Log). HasFile (made false l.admitted l.done) limit (at l.admitted l.done) (kept_by s)
          (store'.contents name)) (sym log_is)
          (subst (λ (x : ℕ). HasFile (made false log.admitted log.done) x (at log.admitted log.done) (kept_by s)
          (store'.contents name)) limited
          (file_here None (ap store'.first (same_name name n b) ∙ none)))))
      files n k e none false b =
          subst (λ (l : Log). HasFile (made false l.admitted l.done) limit (at l.admitted l.done) k (store'.contents n))
          (sym (others_log n b))
          (subst (λ (o : Option (List ℕ)). HasFile (made false (log_of book n).admitted (log_of book n).done) limit
          (at (log_of book n).admitted (log_of book n).done) k o) (sym (content_other n b))
          (h.holds.files honest n k (sym (kept_other n b) ∙ e) (sym (first_same n) ∙ none)))

-- a table with another session under a name
pub table_set : {H : Type 0} (sessions sessions' : Table H) (limit : ℕ) (name : List ℕ) (s : Session) →
    IsTable sessions limit → hash_map_len sessions' ≤ most_takes →
    most_takes ≤ hash_map_len sessions' + spare sessions' →
    ((n : List ℕ) → session_in sessions' n ≡ cond (bytes_eq name n) (Some s) (session_in sessions n)) →
    s.progress.name ≡ name → s.progress.growing.limit ≡ limit → IsTable sessions' limit
table_set sessions sessions' limit name s t few room sets named limited = record {
  few = few;
  room = room;
  names = λ n x e. names n x e (bytes_eq name n) refl;
  limits = λ n x e. limits n x e (bytes_eq name n) refl;
}
  where
    some_same : {a b : Session} → Some a ≡ Some b → a ≡ b
    some_same e = cc

    here : (n : List ℕ) (x : Session) → session_in sessions' n ≡ Some x → bytes_eq name n ≡ true → s ≡ x
    here n x e b = some_same (sym (sets n ∙ ap (λ (v : Bool). cond v (Some s) (session_in sessions n)) b) ∙ e)

    there : (n : List ℕ) (x : Session) → session_in sessions' n ≡ Some x → bytes_eq name n ≡ false →
        session_in sessions n ≡ Some x
    there n x e b = sym (sets n ∙ ap (λ (v : Bool). cond v (Some s) (session_in sessions n)) b) ∙ e

    names : (n : List ℕ) (x : Session) → session_in sessions' n ≡ Some x → (b : Bool) → bytes_eq name n ≡ b →
        x.progress.name ≡ n
    names n x e true b = ap (λ (y : Session). y.progress.name) (sym (here n x e b)) ∙ named ∙ same_name name n b
    names n x e false b = t.names n x (there n x e b)

    limits : (n : List ℕ) (x : Session) → session_in sessions' n ≡ Some x → (b : Bool) → bytes_eq name n ≡ b →
        x.progress.growing.limit ≡ limit
    limits n x e true b = ap (λ (y : Session). y.progress.growing.limit) (sym (here n x e b)) ∙ limited
    limits n x e false b = t.limits n x (there n x e b)

-- the turn of a message, on the book and in the server
module _ (limit : ℕ) (store store' : Store) (sessions sessions' : List ℕ → Option Session) (book : Book)
    (h : HoldsIn limit store sessions book) (honest : IsTrue store.honest)
    (m : Message) (said : IsTrue (is_message Second m)) (s : Session) where
  pub book_turned : (before after : ℕ) (replies : List Reply) →
      ((n : List ℕ) → sessions' n ≡ cond (bytes_eq m.name n) (Some s) (sessions n)) →
      store'.first ≡ store.first → KeepsOthers store.contents store'.contents m.name →
      s.progress.growing.name ≡ m.name → s.progress.growing.limit ≡ limit →
      (a : Answers (is_known book m.name) (is_full book) (store.first m.name) (log_of book m.name) m before after
      replies (part_of s) (store'.contents m.name)) →
      IsSome (turn_by (is_some (store.first m.name)) (is_known book m.name) (is_full book) (log_of book m.name) m
      a.faults).1 ⊎ (is_known book m.name ≡ true) →
      IsTurn (λ n. is_some (store.first n)) before after book (Says m) (map reply_of replies)
      (with_change book m.name (turn_by (is_some (store.first m.name)) (is_known book m.name) (is_full book)
      (log_of book m.name) m a.faults).1)
      × HoldsIn limit store' sessions'
      (with_change book m.name (turn_by (is_some (store.first m.name)) (is_known book m.name) (is_full book)
      (log_of book m.name) m a.faults).1)
  unfolding turn
  book_turned before after replies sets same_first keeps named limited a some = (
    record {
      faults = a.faults;
      answered = a.answered;
      left = refl;
      room = a.room;
      count = a.count;
      stop = a.whole;
    },
    go (turn_by (is_some (store.first m.name)) (is_known book m.name) (is_full book) (log_of book m.name) m a.faults).1
        a.left some (turns_keep_books (λ n. is_some (store.first n)) book (Says m) a.faults said h.holds.is_book),
  )
    where
      go : (o : Option Log) →
          HoldsLog (store.first m.name) (unwrap_or o (log_of book m.name)) (part_of s) (store'.contents m.name) →
          IsSome o ⊎ (is_known book m.name ≡ true) → IsBook (with_change book m.name o) →
          HoldsIn limit store' sessions' (with_change book m.name o)
      go None part which is_book =
          holds_after limit store store' sessions sessions' book book h honest m.name s (log_of book m.name) is_book
          (elim which [
            | inl never ↦ no_false never
            | inr known ↦ known
          ]) refl (λ n b. refl) (λ n b. refl) sets same_first keeps named limited
          (subst (λ (f : List ℕ → Option (List ℕ)). HoldsLog (f m.name) (log_of book m.name) (part_of s)
          (store'.contents m.name)) (sym same_first) part)
      go (Some log) part which is_book =
          holds_after limit store store' sessions sessions' book (with_log book m.name log) h honest m.name s log is_book
          (known-with_log_same book m.name log) (log-with_log_same book m.name log)
          (λ n b. known-with_log_other book m.name n log b) (λ n b. log-with_log_other book m.name n log b) sets
          same_first keeps named limited
          (subst (λ (f : List ℕ → Option (List ℕ)). HoldsLog (f m.name) log (part_of s)
          (store'.contents m.name)) (sym same_first) part)

-- what inserting a session leaves, where it can't be refused
module _ {F : Type 0} (r : Result (Option Session) F) (ok : IsOk r) where
  pub inserted : {P : Type 0} → OnOk r P → P
  inserted p = go r ok p
    where
      go : {P : Type 0} (x : Result (Option Session) F) → IsOk x → OnOk x P → P
      go (Ok old) i p = p
      go (Err e) i p = no_false i

  pub one_more : (sessions : Option Session) (before after : ℕ) → IfOk r (λ old. old ≡ sessions) → sessions ≡ None →
      IfOk r (λ old. after ≡ before + cond (is_some old) 0 1) → after ≡ before + 1
  one_more sessions before after found none len = go r ok found len
    where
      go : (x : Result (Option Session) F) → IsOk x → IfOk x (λ old. old ≡ sessions) →
          IfOk x (λ old. after ≡ before + cond (is_some old) 0 1) → after ≡ before + 1
      go (Ok old) i f l = l ∙ ap (λ (o : Option Session). before + cond (is_some o) 0 1) (f ∙ none)
      go (Err e) i f l = no_false i

-- a message that is turned away, of a name that isn't known
module _ (existed : List ℕ → Bool) (before : ℕ) (book : Book) (m : Message)
    (unknown : is_known book m.name ≡ false) where
  turned_away : (faults : Faults) (code : Notice) →
      turn_by (existed m.name) (is_known book m.name) (is_full book) (log_of book m.name) m faults
      ≡ (notice m code 0, None) →
      (IsTrue faults.refused → IsWithoutRoom book (Says m) (notice m code 0)) → faults.stop ≡ None →
      IsTurn existed before before book (Says m) (notice m code 0) book
  unfolding turn
  turned_away faults code is room stop = record {
    faults = faults;
    answered = ap (λ (x : List ModelReply × Option Log). x.0) is;
    left = ap (λ (x : List ModelReply × Option Log). with_change book m.name x.1) is;
    room = room;
    count = subst (λ (x : List ModelReply × Option Log). Counts before before (option_map_or is_pending x.1 false))
        (sym is) (record { quiet = λ q. refl; rises = λ r. no_false r; stays = λ l. refl });
    stop = λ quiet. stop;
  }

  pub too_far : window ≤ m.number → IsTurn existed before before book (Says m) (notice m TooFar 0) book
  unfolding turn_by
  too_far past =
      let a = le-leb window m.number past in
      turned_away good TooFar (rw (unknown, a) refl) (λ r. no_false r) refl

  pub table_full : m.number < window → length book ≡ most_takes →
      IsTurn existed before before book (Says m) (notice m TableFull 0) book
  unfolding turn_by
  table_full near full =
      let a = lt-leb window m.number near in
      let b = le-leb most_takes (length book) (omega (arith, full)) in
      turned_away good TableFull (rw (unknown, a, b) refl) (λ r. no_false r) refl

  pub no_room : m.number < window → length book < most_takes →
      IsTurn existed before before book (Says m) (notice m NoRoom 0) book
  unfolding turn_by
  no_room near place =
      let a = lt-leb window m.number near in
      let b = lt-leb most_takes (length book) place in
      let c = lt-ltb m.number window near in
      let l = unknown_log book m.name unknown in
      let admissible : is_admissible (log_of book m.name) m.number ≡ true =
      ap (λ (x : Log). is_admissible x m.number) l ∙ c in
      let done : (log_of book m.name).done ≡ 0 = ap (λ (x : Log). x.done) l in
      turned_away (record { refused = true; stop = None }) NoRoom
      (rw (unknown, a, b, admissible, done) refl)
      (λ r. (admissible, ap (notice m NoRoom) (sym done))) refl
