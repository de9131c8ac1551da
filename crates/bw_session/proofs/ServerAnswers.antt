-- A server's answers as turns on the books that it may hold.
use Rattle.std.proofs.Common.{◌≡◌, ℕ, Bool, true, false, length, Option, Some, None, List, refl, sym, ◌∙◌, ap}
use Rattle.std.specs.Prelude.{option_map, ◌∷◌, [], ◌||◌, map}
use Rattle.std.specs.List.{All, list_any}
use Rattle.std.specs.Option.{option_map_or}
use Rattle.std.proofs.lemmas.List.Elements.{All-head, All-tail}
use Rattle.bw_model.specs.Counts.{Counts}
use Rattle.bw_model.specs.Wire.{Frame, Message, Says, Asks, Bye}
use Rattle.bw_model.specs.Replies.{Reply, Noticed, Next}
use Rattle.bw_model.specs.Book.{Log, Book, log_of}
use Rattle.bw_model.specs.Turn.{good, turn}
use Rattle.bw_model.specs.CountedTurn.{IsTurn, book_reported, is_delayed}
use Rattle.bw_model.specs.Holds.{Store, Holds}
use Rattle.bw_model.proofs.BookLemmas.{unknown_log}
use Rattle.bw_model.proofs.TurnLaws.{replies_report}
use Rattle.bw_wire.specs.declared.reply.Reply.{Reply as Reported}
use Rattle.bw_wire.specs.Replies.{reply_of}
use Rattle.bw_session.specs.NotedNames.{none_asleep, IsAwakeFor}
use Rattle.bw_session.specs.Servers.{kept_by}
use Rattle.bw_session.specs.ServedReplies.{IsTimely}
use Rattle.bw_session.specs.declared.session.Session.{Session}
use Rattle.bw_session.proofs.ReportForms.{done_reported, unknown_reported}

-- how many numbers of a name are done in a server that holds the book
pub done_is : (limit : ℕ) (store : Store) (sessions : List ℕ → Option Session) (book : Book) →
    Holds limit store (λ n. option_map kept_by (sessions n)) book → (name : List ℕ) →
    (log_of book name).done ≡ option_map_or (λ s. length s.progress.ledger.outcomes) (sessions name) 0
done_is limit store sessions book h name = go (sessions name) refl
  where
    go : (o : Option Session) → sessions name ≡ o →
        (log_of book name).done ≡ option_map_or (λ s. length s.progress.ledger.outcomes) o 0
    go None e = ap (λ (l : Log). l.done) (unknown_log book name (unknown_reported limit store sessions book h name e))
    go (Some s) e = sym (done_reported limit store sessions book h name s e)

-- the later book, as the replies report it
pub later_reported : (existed : List ℕ → Bool) (before after : ℕ) (book : Book) (m : Message) (replies : List Reply)
    (later : Book) (done : ℕ) → IsTurn existed before after book (Says m) replies later →
    (log_of later m.name).done ≡ done → book_reported book m replies done ≡ later
later_reported existed before after book m replies later done t e =
    ap (book_reported book m replies) (sym e)
    ∙ ap (λ (b : Book). book_reported book m replies (log_of b m.name).done) (sym t.left)
    ∙ ap (λ (rs : List Reply). book_reported book m rs (log_of (turn existed book (Says m) t.faults).1 m.name).done)
    (sym t.answered)
    ∙ sym (replies_report existed book m t.faults) ∙ t.left

-- if a reply reports a failed call, one failed
pub one_failed : (failed : Bool) (replies : List Reported) → All (IsTimely failed) replies →
    list_any is_delayed (map reply_of replies) ≡ true → failed ≡ true
one_failed failed [] timely reported = absurd cc
one_failed failed (r ∷ rest) timely reported =
    go (is_delayed (reply_of r)) refl (one_failed failed rest (All-tail (IsTimely failed) r rest timely))
  where
    go : (b : Bool) → is_delayed (reply_of r) ≡ b →
        (list_any is_delayed (map reply_of rest) ≡ true → failed ≡ true) → failed ≡ true
    go true e others = All-head (IsTimely failed) r rest timely e
    go false e others = others (sym (ap (λ (b : Bool). b || list_any is_delayed (map reply_of rest)) e) ∙ reported)

-- where no name is asleep, each frame's is awake
pub all_awake : (f : Frame) → IsAwakeFor none_asleep f
all_awake (Says m) = refl
all_awake (Asks name n) = tt
all_awake Bye = tt

-- an ask is answered in a turn that meets no fault
pub asked_turn : (existed : List ℕ → Bool) (failures : ℕ) (book : Book) (name : List ℕ) (n : ℕ) (reply : Reply) →
    reply ≡ Noticed name n Next (log_of book name).done →
    IsTurn existed failures failures book (Asks name n) (reply ∷ []) book
unfolding turn
asked_turn existed failures book name n reply is = record {
  faults = good;
  answered = ap (λ (r : Reply). r ∷ []) (sym is);
  left = refl;
  room = λ refused. absurd (no_faults refused);
  count = record { quiet = λ e. refl; rises = λ e. absurd (no_faults e); stays = λ e. refl };
  stop = λ e. refl;
}
  where
    no_faults : false ≡ true → ⊥
    no_faults e = cc

-- if nothing failed, a count stays
pub quiet_count : (n : ℕ) → Counts n n false
quiet_count n = record { quiet = λ e. refl; rises = λ e. absurd cc; stays = λ e. refl }

-- the answer to an ask reports no failed call
pub next_not_delayed : (name : List ℕ) (n next : ℕ) (reply : Reply) → reply ≡ Noticed name n Next next →
    list_any is_delayed (reply ∷ []) ≡ true → false ≡ true
next_not_delayed name n next reply is reported =
    sym (ap (λ (r : Reply). list_any is_delayed (r ∷ [])) is) ∙ reported
