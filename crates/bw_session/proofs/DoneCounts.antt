-- How many numbers of a book are done, and how often the store was called for them.
use Rattle.std.proofs.Common.{◌≡◌, ℕ, ◌+◌, ◌*◌, ◌≤◌, ◌<◌, Bool, true, false, cond, List, [], ◌∷◌, Option, Some, None}
use Rattle.std.proofs.Common.{refl, sym, ◌∙◌, ap, subst, arith}
use Rattle.std.specs.Str.{bytes_eq}
use Rattle.std.proofs.lemmas.List.Sums.{sum_by-cons}
use Rattle.bw_model.specs.Counts.{Counts, last_count}
use Rattle.bw_model.specs.Wire.{Frame, Message, Says, Asks, Bye}
use Rattle.bw_model.specs.Replies.{Reply}
use Rattle.bw_model.specs.Book.{Log, Book, log_of, with_log}
use Rattle.bw_model.specs.Turn.{turn, with_change}
use Rattle.bw_model.specs.CountedTurn.{IsTurn, log_after_frame}
use Rattle.bw_model.proofs.BookLemmas.{log-with_log_same}
use Rattle.bw_store.specs.declared.store.TakeStore.{Ghosts as StoreGhosts}
use Rattle.bw_journal.specs.declared.journal.Journal.{Ghosts as JournalGhosts}
use Rattle.bw_session.specs.Books.{failures_of, HoldsBook}
use Rattle.bw_session.specs.Servers.{done_in, store_since}
use Rattle.bw_session.specs.Sessions.{CallsFew}
use Rattle.bw_session.specs.Tables.{session_in}
use Rattle.bw_session.specs.declared.server.Server.{Server}
use Rattle.bw_session.specs.ServerRuns.{all_done}
use Rattle.bw_session.specs.ServerTurns.{AsksStoreFor}
use Rattle.bw_session.proofs.ServerAnswers.{done_is}

done-cons : (e : List ℕ × Log) (book : Book) → all_done (e ∷ book) ≡ e.1.done + all_done book
done-cons e book = sum_by-cons (λ (entry : List ℕ × Log). entry.1.done) e book

-- one name's log is another, and then others' are
here : (e : List ℕ × Log) (book : Book) (name : List ℕ) (log : Log) →
    all_done ((name, log) ∷ book) + e.1.done ≡ all_done (e ∷ book) + log.done
here e book name log =
    let new : all_done ((name, log) ∷ book) ≡ log.done + all_done book = done-cons (name, log) book in
    let old : all_done (e ∷ book) ≡ e.1.done + all_done book = done-cons e book in
    omega (arith, new, old)

following : (e : List ℕ × Log) (book book' : Book) (x y : ℕ) → all_done book' + x ≡ all_done book + y →
    all_done (e ∷ book') + x ≡ all_done (e ∷ book) + y
following e book book' x y others =
    let new : all_done (e ∷ book') ≡ e.1.done + all_done book' = done-cons e book' in
    let old : all_done (e ∷ book) ≡ e.1.done + all_done book = done-cons e book in
    omega (arith, new, old, others)

done-with_log : (book : Book) (name : List ℕ) (log : Log) →
    all_done (with_log book name log) + (log_of book name).done ≡ all_done book + log.done
done-with_log [] name log = new_name name log
  where
    new_name : (name : List ℕ) (log : Log) → all_done ((name, log) ∷ []) + 0 ≡ 0 + log.done
    new_name name log =
        let new : all_done ((name, log) ∷ []) ≡ log.done + all_done [] = done-cons (name, log) [] in
        let none : all_done [] ≡ 0 = refl in omega (arith, new, none)
done-with_log (e ∷ book) name log = go (bytes_eq e.0 name) (done-with_log book name log)
  where
    go : (v : Bool) → all_done (with_log book name log) + (log_of book name).done ≡ all_done book + log.done →
        all_done (cond v ((name, log) ∷ book) (e ∷ with_log book name log)) + (cond v e.1 (log_of book name)).done
        ≡ all_done (e ∷ book) + log.done
    go true others = here e book name log
    go false others = following e book (with_log book name log) (log_of book name).done log.done others

done-with_change : (book : Book) (name : List ℕ) (o : Option Log) →
    all_done (with_change book name o) + (log_of book name).done
    ≡ all_done book + (log_of (with_change book name o) name).done
done-with_change book name None = refl
done-with_change book name (Some log) =
    done-with_log book name log ∙ ap (λ (l : Log). all_done book + l.done) (sym (log-with_log_same book name log))

-- a turn of a message changes the count by what it does under the message's name
done_by_turn : (existed : List ℕ → Bool) (before after : ℕ) (book : Book) (m : Message) (replies : List Reply)
    (later : Book) → IsTurn existed before after book (Says m) replies later →
    all_done later + (log_of book m.name).done ≡ all_done book + (log_of later m.name).done
unfolding turn
done_by_turn existed before after book m replies later t =
    subst (λ (b : Book). all_done b + (log_of book m.name).done ≡ all_done book + (log_of b m.name).done) t.left
    (done-with_change book m.name (log_after_frame existed book (Says m) t.faults))

same_by_ask : (existed : List ℕ → Bool) (before after : ℕ) (book : Book) (name : List ℕ) (n : ℕ) (replies : List Reply)
    (later : Book) → IsTurn existed before after book (Asks name n) replies later → book ≡ later
unfolding turn
same_by_ask existed before after book name n replies later t = t.left

-- how often a store was called for what was done between two counts
pub record CalledFor (called called' done done' : ℕ) (failed : Bool) : Type 0 where
  pub earlier : ℕ
  pub later : ℕ
  pub few : CallsFew called called' earlier later failed
  pub same : done' + earlier ≡ done + later

module _ {X Y : Type 0} (S : StoreGhosts X) (J : JournalGhosts Y) where
  pub called_for : (first : List ℕ → Option (List ℕ)) (existed : List ℕ → Bool) (old new : Server X Y S J)
      (book later : Book) (frame : Frame) (replies : List Reply) (failed : Bool) →
      AsksStoreFor S J frame failed old new → HoldsBook S J first old book → HoldsBook S J first new later →
      IsTurn existed (failures_of S J old) (failures_of S J new) book frame replies later →
      CalledFor (S.calls old.stores.store) (S.calls new.stores.store) (all_done book) (all_done later) failed
  called_for first existed old new book later (Says m) replies failed asks held held' t =
      let before : (log_of book m.name).done ≡ done_in old.sessions m.name =
      done_is old.limit (store_since S first old.stores.store) (session_in old.sessions) book held.holds m.name in
      let after : (log_of later m.name).done ≡ done_in new.sessions m.name =
      done_is new.limit (store_since S first new.stores.store) (session_in new.sessions) later held'.holds m.name in
      let all = done_by_turn existed (failures_of S J old) (failures_of S J new) book m replies later t in
      record {
        earlier = done_in old.sessions m.name;
        later = done_in new.sessions m.name;
        few = asks.few;
        same = omega (arith, before, after, all);
      }
  called_for first existed old new book later (Asks name n) replies failed asks held held' t =
      let same = same_by_ask existed (failures_of S J old) (failures_of S J new) book name n replies later t in
      let calls : S.calls new.stores.store ≡ S.calls old.stores.store =
      ap (λ (s : Server X Y S J). S.calls s.stores.store) asks in
      let done : all_done book ≡ all_done later = ap all_done same in
      record { earlier = 0; later = 0; few = called_none _ _ failed calls; same = omega (arith, done) }
    where
      called_none : (called called' : ℕ) (failed : Bool) → called' ≡ called → CallsFew called called' 0 0 failed
      called_none called called' true e = omega (arith, e)
      called_none called called' false e = omega (arith, e)
  called_for first existed old new book later Bye replies failed asks held held' t = absurd asks

-- one turn, and then others
pub called_then : (called mid called' done between done' failures failed_mid failures' : ℕ) (failed : Bool) →
    CalledFor called mid done between failed → Counts failures failed_mid failed → failures ≤ failed_mid →
    failed_mid ≤ failures' →
    (failures' < last_count → called' + 4 * (between + failed_mid) ≤ mid + 4 * (done' + failures')) →
    failures' < last_count → called' + 4 * (done + failures) ≤ called + 4 * (done' + failures')
called_then called mid called' done between done' failures failed_mid failures' true c counts up more others below =
    let few = c.few in
    let same = c.same in
    let rose = counts.rises refl (omega (arith, up, more, below)) in
    let rest = others below in
    omega (arith, few, same, rose, rest)
called_then called mid called' done between done' failures failed_mid failures' false c counts up more others below =
    let few = c.few in
    let same = c.same in
    let stays = counts.quiet refl in
    let rest = others below in
    omega (arith, few, same, stays, rest)
