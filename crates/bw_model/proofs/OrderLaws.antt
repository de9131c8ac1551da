-- A run in number order in which no failure was reported leaves nothing pending.
use Rattle.std.proofs.Common.{◌≡◌, ℕ, suc, zero, ◌+◌, ◌-◌, ◌<◌, ◌≤◌, Bool, true, false, not, cond, ◌&&◌, List, [], ◌∷◌}
use Rattle.std.proofs.Common.{◌++◌, length, Option, Some, None, refl, sym, ◌∙◌, ap, subst, arith, ◌⊎◌, inl, inr}
use Rattle.std.specs.Prelude.{map, is_some, is_none, nat_le, nat_lt}
use Rattle.std.specs.List.{list_any}
use Rattle.std.specs.Str.{bytes_eq}
use Rattle.std.proofs.lemmas.List.Sums.{fold-append}
use Rattle.std.proofs.lemmas.List.Folds.{list_any-append}
use Rattle.std.proofs.lemmas.Bool.{false≢true, or_parts, and_from, and_right, and_left, cases_eq, cases_lt, leb-true}
use Rattle.std.proofs.lemmas.Bool.{leb-false, lt-ltb, le-ltb, lt-leb}
use Rattle.sha2.specs.Sha256.{sha256}
use Rattle.bw_model.specs.Bytes.{at, put, first_free}
use Rattle.bw_model.specs.Take.{Request}
use Rattle.bw_model.specs.Wire.{Message, Frame, Says, Asks, Bye, message_body}
use Rattle.bw_model.specs.Replies.{Reply}
use Rattle.bw_model.specs.Book.{Log, Book, log_of, is_known, with_log, run_end}
use Rattle.bw_model.specs.Turn.{Faults, turn, turn_by, served, own_reply, verdicts_from, window, is_admissible}
use Rattle.bw_model.specs.Turn.{admitted_after, drained_to, is_repeat, repeats, is_full, most_takes, with_change}
use Rattle.bw_model.specs.Turn.{message_turn, book_after_turn, book_after, run}
use Rattle.bw_model.specs.NumberOrder.{with_frame, received_under, IsNextOrReceived, AreInOrder, reports_failure, lacks}
use Rattle.bw_model.specs.NumberOrder.{OrderLeavesNothingPending}
use Rattle.bw_model.proofs.MapLemmas.{at-put_same, at-below, at-first_free}
use Rattle.bw_model.proofs.BookLemmas.{same_name, name_refl, log-with_log_same, log-with_log_other, known-with_log_same}
use Rattle.bw_model.proofs.BookLemmas.{known-with_log_other, unknown_log}
use Rattle.bw_model.proofs.BookLaws.{first_free-drop, length-with_log_grows}
use Rattle.bw_model.proofs.OwnReplies.{own_cases}
use Rattle.bw_model.proofs.TurnLaws.{outcome}

-- Maps without a gap.

abbrev IsWhole : {X : Type 0} → List (Option X) → Type 0
IsWhole s = first_free s ≡ length s

-- one more at the end, or one that is there
record IsPut {X : Type 0} (s : List (Option X)) (n : ℕ) (new : List (Option X)) : Type 0 where
  whole : IsWhole new
  there : n < length s → length new ≡ length s
  more : n ≡ length s → length new ≡ suc (length s)

whole-put : {X : Type 0} (s : List (Option X)) (n : ℕ) (x : X) → IsWhole s → n ≤ length s → IsPut s n (put s n x)
whole-put [] zero x w h = record { whole = refl; there = λ below. absurd (omega arith); more = λ e. refl }
whole-put [] (suc n) x w h = absurd (omega arith)
whole-put (None ∷ ys) n x w h = absurd (omega arith)
whole-put (Some y ∷ ys) zero x w h = record { whole = w; there = λ below. refl; more = λ e. absurd (omega arith) }
whole-put (Some y ∷ ys) (suc n) x w h =
    let p = whole-put ys n x (omega arith) (omega arith) in
    let whole = p.whole in
    record {
      whole = omega (arith, whole);
      there = λ below. ap suc (p.there (omega arith));
      more = λ e. ap suc (p.more (omega arith));
    }

nothing_past : {X : Type 0} (s : List (Option X)) (n : ℕ) → length s ≤ n → at s n ≡ None
nothing_past s n h = go (at s n) refl
  where
    go : (o : Option _) → at s n ≡ o → o ≡ None
    go None e = refl
    go (Some x) e = let below : n < length s = at-below s n x e in absurd (omega arith)

-- One name.

-- its log has no gap and nothing pending, and has what came under the name; an unknown name had no
-- place, or nothing came
record IsInStep (name : List ℕ) (b : Book) (received : List (Option Request)) : Type 0 where
  whole : IsWhole (log_of b name).admitted
  ended : (log_of b name).done ≡ length (log_of b name).admitted
  received_whole : IsWhole received
  same : is_known b name ≡ true → length received ≡ (log_of b name).done
  free : is_known b name ≡ false → is_full b ≡ false → length received ≡ 0

-- a log without a gap after a message
record IsLogInStep (log : Log) (n : ℕ) (new : Log) : Type 0 where
  whole : IsWhole new.admitted
  ended : new.done ≡ length new.admitted
  there : n < log.done → new.done ≡ log.done
  more : n ≡ log.done → new.done ≡ suc log.done

drained_none : (done : ℕ) (s : List (Option Request)) (stop : Option ℕ) → run_end s done ≡ done →
    drained_to done (run_end s done) stop ≡ done
drained_none done s None e = e
drained_none done s (Some k) e = omega (arith, e)

drained_most : (done end : ℕ) (stop : Option ℕ) → drained_to done end stop ≤ end
drained_most done end None = omega arith
drained_most done end (Some k) = omega arith

-- the own reply to an admitted number that draining did not reach reports a failure
own-short : (taken : Bool) (s : List (Option Request)) (done later end : ℕ) (m : Message) →
    at s m.number ≡ Some m.request → done ≤ m.number → m.number < done + window →
    later ≤ m.number → later < end → list_any reports_failure (own_reply taken s done later end m) ≡ true
own-short taken s done later end m here from near short below =
    own_cases (λ rs. list_any reports_failure rs ≡ true) taken s done later end m
    (λ e. absurd (false≢true (sym (lt-leb (done + window) m.number near) ∙ e)))
    (λ e. absurd (false≢true (sym (ap not same) ∙ e)))
    (λ e. absurd (false≢true (sym passed ∙ e)))
    (λ e. absurd (false≢true (sym (le-ltb m.number done from) ∙ e)))
    (λ _. refl)
    (λ e. absurd (false≢true (sym e ∙ lt-ltb later end below)))
  where
    same : is_repeat s m ≡ true
    same = ap (repeats m) here ∙ name_refl (sha256 (message_body m))

    passed : nat_le done m.number && nat_lt m.number later ≡ false
    passed = and_right (nat_le done m.number) (nat_lt m.number later) (le-ltb m.number later short)

served_step : (taken : Bool) (log : Log) (m : Message) (stop : Option ℕ) → IsWhole log.admitted →
    log.done ≡ length log.admitted → m.number ≤ log.done →
    list_any reports_failure (served taken log m stop).0 ≡ false → IsLogInStep log m.number (served taken log m stop).1
unfolding served
served_step taken log m stop whole ended near good = go (cases_eq m.number log.done)
  where
    s : List (Option Request)
    s = admitted_after log m

    end : ℕ
    end = run_end s log.done

    later : ℕ
    later = drained_to log.done end stop

    p : IsPut log.admitted m.number (put log.admitted m.number m.request)
    p = whole-put log.admitted m.number m.request whole (omega (arith, ended))

    own_good : list_any reports_failure (own_reply taken s log.done later end m) ≡ false
    own_good =
        (or_parts (list_any reports_failure (verdicts_from taken s m.name log.done (later - log.done)))
        (list_any reports_failure (own_reply taken s log.done later end m))
        (sym (list_any-append reports_failure (verdicts_from taken s m.name log.done (later - log.done))
        (own_reply taken s log.done later end m)) ∙ good)).1

    -- the next number
    next : m.number ≡ log.done → (x : Bool) → is_admissible log m.number ≡ x →
        IsLogInStep log m.number
        (record { admitted = cond x (put log.admitted m.number m.request) log.admitted; done = later })
    next e false a =
        absurd (false≢true (sym a
        ∙ and_from (is_none (at log.admitted m.number)) (nat_lt m.number (log.done + window))
        (ap is_none (nothing_past log.admitted m.number (omega (arith, e, ended))))
        (lt-ltb m.number (log.done + window) (omega (arith, e)))))
    next e true a =
        let new : s ≡ put log.admitted m.number m.request =
        ap (λ (v : Bool). cond v (put log.admitted m.number m.request) log.admitted) a in
        let more : length (put log.admitted m.number m.request) ≡ suc (length log.admitted) =
        p.more (omega (arith, e, ended)) in
        let full : end ≡ suc log.done = ap (λ (z : List (Option Request)). run_end z log.done) new ∙ run-put e in
        let reached : later ≡ suc log.done = through (cases_lt later end) new full in
        record {
          whole = p.whole;
          ended = omega (arith, reached, more, ended);
          there = λ below. absurd
              (omega (arith, e));
          more = λ _. reached;
        }
      where
        run-put : m.number ≡ log.done → run_end (put log.admitted m.number m.request) log.done ≡ suc log.done
        run-put e =
            let free : log.done ≤ first_free (put log.admitted m.number m.request) =
            (let w = p.whole in let more = p.more (omega (arith, e, ended)) in omega (arith, w, more, ended)) in
            let all = first_free-drop log.done (put log.admitted m.number m.request) free in
            let w = p.whole in
            let more = p.more (omega (arith, e, ended)) in
            omega (arith, all, w, more, ended)

        through : (later < end) ⊎ (end ≤ later) → s ≡ put log.admitted m.number m.request → end ≡ suc log.done →
            later ≡ suc log.done
        through (inl short) new full = absurd (false≢true (sym own_good ∙
            own-short taken s log.done later end m (ap (λ (z : List (Option Request)). at z m.number) new
            ∙ at-put_same log.admitted m.number m.request) (omega (arith, e)) (omega (arith, e))
            (omega (arith, e, full)) short))
        through (inr all) new full = let most = drained_most log.done end stop in omega (arith, all, most, full)

    go : (m.number ≡ log.done) ⊎ (m.number ≡ log.done → ⊥) →
        IsLogInStep log m.number (record { admitted = s; done = later })
    go (inl e) = next e (is_admissible log m.number) refl
    go (inr other) =
        let below : m.number < log.done = omega (arith, other, near) in
        let there = at-first_free log.admitted m.number (omega (arith, below, ended, whole)) in
        let no : is_admissible log m.number ≡ false =
        and_left (is_none (at log.admitted m.number)) (nat_lt m.number (log.done + window)) (ap is_none there.1) in
        let same : s ≡ log.admitted = ap (λ (v : Bool). cond v (put log.admitted m.number m.request) log.admitted) no in
        let all = first_free-drop log.done log.admitted (omega (arith, whole, ended)) in
        let reached : later ≡ log.done =
        drained_none log.done s stop (ap (λ (z : List (Option Request)). run_end z log.done) same
        ∙ omega (arith, all, whole, ended)) in
        record {
          whole = subst (λ (z : List (Option Request)). IsWhole z) (sym same) whole;
          ended = reached ∙ ended ∙ ap length (sym same);
          there = λ _. reached;
          more = λ e. absurd (other e);
        }

-- Books.

-- a message of another name
other_step : (name : List ℕ) (b : Book) (received : List (Option Request)) (x : List ℕ) (o : Option Log) →
    bytes_eq x name ≡ false → IsInStep name b received → IsInStep name (with_change b x o) received
other_step name b received x None off h = h
other_step name b received x (Some l) off h =
    let logs = log-with_log_other b x name l off in
    let known = known-with_log_other b x name l off in
    record {
      whole = subst (λ (z : Log). IsWhole z.admitted) (sym logs) h.whole;
      ended = ap (λ (z : Log). z.done) logs ∙ h.ended ∙ ap (λ (z : Log). length z.admitted) (sym logs);
      received_whole = h.received_whole;
      same = λ k. h.same (sym known ∙ k) ∙ ap (λ (z : Log). z.done) (sym logs);
      free = λ k room. h.free (sym known ∙ k) (lt-leb most_takes (length b) (
          let more = length-with_log_grows b x l in
          let room' : length (with_log b x l) < most_takes = leb-false most_takes (length (with_log b x l)) room in
          omega (arith, more, room')));
    }

-- a message of the name that changes nothing
away_step : (b : Book) (received : List (Option Request)) (m : Message) → IsInStep m.name b received →
    m.number ≤ first_free received → is_known b m.name ≡ false → is_full b ≡ true →
    IsInStep m.name b (put received m.number m.request)
away_step b received m h near k full =
    let received_whole = h.received_whole in
    let p = whole-put received m.number m.request h.received_whole (omega (arith, received_whole, near)) in
    record {
      whole = h.whole;
      ended = h.ended;
      received_whole = p.whole;
      same = λ yes. absurd (false≢true (sym k ∙ yes));
      free = λ _ room. absurd (false≢true (sym room ∙ full));
    }

-- a message of the name that is served
kept_step : (taken : Bool) (b : Book) (received : List (Option Request)) (m : Message) (stop : Option ℕ) →
    IsInStep m.name b received → m.number ≤ first_free received → length received ≡ (log_of b m.name).done →
    list_any reports_failure (served taken (log_of b m.name) m stop).0 ≡ false →
    IsInStep m.name (with_log b m.name (served taken (log_of b m.name) m stop).1) (put received m.number m.request)
kept_step taken b received m stop h near same good =
    let received_whole = h.received_whole in
    let p = whole-put received m.number m.request h.received_whole (omega (arith, received_whole, near)) in
    let x = served_step taken (log_of b m.name) m stop h.whole h.ended (omega (arith, received_whole, near, same)) good in
    let new : Log = (served taken (log_of b m.name) m stop).1 in
    let logs : log_of (with_log b m.name new) m.name ≡ new = log-with_log_same b m.name new in
    let count : length (put received m.number m.request) ≡ new.done = go (cases_eq m.number (log_of b m.name).done) p x in
    record {
      whole = subst (λ (z : Log). IsWhole z.admitted) (sym logs) x.whole;
      ended = ap (λ (z : Log). z.done) logs ∙ x.ended ∙ ap (λ (z : Log). length z.admitted) (sym logs);
      received_whole = p.whole;
      same = λ _. count ∙ ap (λ (z : Log). z.done) (sym logs);
      free = λ no _. absurd (false≢true (sym no ∙ known-with_log_same b m.name new));
    }
  where
    go : (m.number ≡ (log_of b m.name).done) ⊎ (m.number ≡ (log_of b m.name).done → ⊥) →
        IsPut received m.number (put received m.number m.request) →
        IsLogInStep (log_of b m.name) m.number (served taken (log_of b m.name) m stop).1 →
        length (put received m.number m.request) ≡ (served taken (log_of b m.name) m stop).1.done
    go (inl e) p x = p.more (e ∙ sym same) ∙ ap suc same ∙ sym (x.more e)
    go (inr other) p x =
        let received_whole = h.received_whole in
        let below : m.number < (log_of b m.name).done = omega (arith, other, near, same, received_whole) in
        p.there (omega (arith, below, same)) ∙ same ∙ sym (x.there below)

message_step : (taken : Bool) (b : Book) (received : List (Option Request)) (m : Message) (faults : Faults) →
    IsInStep m.name b received → m.number ≤ first_free received →
    list_any reports_failure (message_turn taken b m faults).0 ≡ false →
    IsInStep m.name (message_turn taken b m faults).1 (put received m.number m.request)
unfolding turn_by
message_step taken b received m faults h near good =
    go (is_known b m.name) refl (nat_le window m.number) refl (is_full b) refl
    (is_admissible log m.number && faults.refused) good
  where
    log : Log
    log = log_of b m.name

    x : List Reply × Log
    x = served taken log m faults.stop

    received_whole : IsWhole received
    received_whole = h.received_whole

    go : (known : Bool) → is_known b m.name ≡ known → (far : Bool) → nat_le window m.number ≡ far → (full : Bool) →
        is_full b ≡ full → (refused : Bool) →
        list_any reports_failure (outcome known far full refused log m x).0 ≡ false →
        IsInStep m.name (with_change b m.name (outcome known far full refused log m x).1)
        (put received m.number m.request)
    go false k true f true fl refused good = away_step b received m h near k fl
    go false k true f false fl refused good =
        let none = h.free k fl in
        let over : window ≤ m.number = leb-true window m.number f in
        absurd (omega (arith, none, over, near, received_whole))
    go false k false f true fl refused good = away_step b received m h near k fl
    go false k false f false fl true good = absurd (false≢true (sym good))
    go false k false f false fl false good =
        kept_step taken b received m faults.stop h near (h.free k fl
        ∙ sym (ap (λ (l : Log). l.done) (unknown_log b m.name k))) good
    go true k far f full fl true good = absurd (false≢true (sym good))
    go true k far f full fl false good = kept_step taken b received m faults.stop h near (h.same k) good

frame_step : (existed : List ℕ → Bool) (name : List ℕ) (b : Book) (before : List Frame) (f : Frame) (faults : Faults) →
    IsInStep name b (received_under name before) → IsNextOrReceived before f →
    list_any reports_failure (turn existed b f faults).0 ≡ false →
    IsInStep name (turn existed b f faults).1 (with_frame name (received_under name before) f)
unfolding turn
frame_step existed name b before (Says m) faults h near good = go (bytes_eq m.name name) refl
  where
    go : (v : Bool) → bytes_eq m.name name ≡ v →
        IsInStep name (message_turn (existed m.name) b m faults).1
        (cond v (put (received_under name before) m.number m.request) (received_under name before))
    go false e = other_step name b (received_under name before) m.name _ e h
    go true e =
        let is : m.name ≡ name = same_name m.name name e in
        subst (λ (z : List ℕ). IsInStep z (message_turn (existed m.name) b m faults).1
        (put (received_under z before) m.number m.request)) is
        (message_step (existed m.name) b (received_under m.name before) m faults
        (subst (λ (z : List ℕ). IsInStep z b (received_under z before)) (sym is) h) near good)
frame_step existed name b before (Asks x n) faults h near good = h
frame_step existed name b before Bye faults h near good = h

steps : (existed : List ℕ → Bool) (name : List ℕ) (b : Book) (before : List Frame) (ts : List (Frame × Faults)) →
    IsInStep name b (received_under name before) →
    AreInOrder before (map (λ t. t.0) ts) → list_any lacks (run existed b ts) ≡ false →
    (received : List (Option Request)) × IsInStep name (book_after existed b ts) received
steps existed name b before [] h near good = (received_under name before, h)
steps existed name b before (t ∷ ts) h near good =
    let goods =
    or_parts (list_any reports_failure (turn existed b t.0 t.1).0) (list_any lacks (run existed (book_after_turn existed b t) ts))
    good in
    steps existed name (book_after_turn existed b t) (before ++ t.0 ∷ []) ts
    (subst (IsInStep name (book_after_turn existed b t)) (sym (fold-append (with_frame name) [] before (t.0 ∷ [])))
    (frame_step existed name b before t.0 t.1 h near.0 goods.0))
    near.1 goods.1

start : (name : List ℕ) → IsInStep name [] (received_under name [])
start name = record { whole = refl; ended = refl; received_whole = refl; same = λ k. refl; free = λ _ _. refl }

pub nothing_pends : OrderLeavesNothingPending
nothing_pends existed ts near good name =
    let x = steps existed name [] [] ts (start name) near good in
    let log = log_of (book_after existed [] ts) name in
    let ended = x.1.ended in
    ap is_some (nothing_past log.admitted log.done (omega (arith, ended)))
