-- What the replies of a turn and the count of the store's failures determine.
use Rattle.std.proofs.Common.{◌≡◌, ℕ, suc, zero, ◌+◌, ◌-◌, ◌<◌, ◌≤◌, Bool, true, false, not, cond, ◌&&◌, ◌||◌, List}
use Rattle.std.proofs.Common.{length, drop, Option, Some, None, refl, sym, ◌∙◌, ap, arith, length-append}
use Rattle.std.specs.Prelude.{is_some, nat_le, nat_lt}
use Rattle.std.specs.List.{list_any}
use Rattle.std.specs.Option.{option_map_or}
use Rattle.std.proofs.lemmas.List.Folds.{list_any-append}
use Rattle.std.proofs.lemmas.Bool.{false≢true, ltb-true}
use Rattle.bw_model.specs.Bytes.{at}
use Rattle.bw_model.specs.Take.{Request}
use Rattle.bw_model.specs.Wire.{Message, Frame, Says, Asks, Bye}
use Rattle.bw_model.specs.Replies.{Reply, TooFar, TableFull, NoRoom}
use Rattle.bw_model.specs.Book.{Log, Book, log_of, is_known, with_log, run_end}
use Rattle.bw_model.specs.Turn.{Faults, turn, turn_by, served, own_reply, verdicts_from, notice, window, is_admissible}
use Rattle.bw_model.specs.Turn.{admitted_after, drained_to, is_full, with_change, is_turned_away}
use Rattle.bw_model.specs.BookRules.{IsBook}
use Rattle.bw_model.specs.CountedTurn.{is_pending, is_delayed, stops_short, book_reported, TurnsGiveFewReplies}
use Rattle.bw_model.specs.CountedTurn.{RepliesReportTheBook, DelaysAreCounted, QuietTurnsDrain}
use Rattle.bw_model.proofs.MapLemmas.{at-drop, at-first_free}
use Rattle.bw_model.proofs.BookLemmas.{log-with_log_same, unknown_log}
use Rattle.bw_model.proofs.BookLaws.{first_free-length, is_servable, is_admitted, is_drained}
use Rattle.bw_model.proofs.OwnReplies.{own_cases}
use Rattle.bw_model.proofs.Isolation.{served-not_away}

-- the four outcomes of a message, by what is tested
abbrev pub outcome : Bool → Bool → Bool → Bool → Log → Message → List Reply × Log → List Reply × Option Log
outcome known far full refused log m x =
    cond (not known && far) (notice m TooFar 0, None) (cond (not known && full) (notice m TableFull 0, None)
    (cond refused (notice m NoRoom log.done, None) (x.0, Some x.1)))

-- How many replies.

length-verdicts : (taken : Bool) (s : List (Option Request)) (name : List ℕ) (n k : ℕ) →
    length (verdicts_from taken s name n k) ≡ k
length-verdicts taken s name n zero = refl
length-verdicts taken s name n (suc k) = ap suc (length-verdicts taken s name (suc n) k)

length-own : (taken : Bool) (s : List (Option Request)) (done later end : ℕ) (m : Message) →
    length (own_reply taken s done later end m) ≤ 1
length-own taken s done later end m =
    own_cases (λ rs. length rs ≤ 1) taken s done later end m
    (λ _. omega arith) (λ _. omega arith) (λ _. omega arith) (λ _. omega arith) (λ _. omega arith) (λ _. omega arith)

length-served : (taken : Bool) (b : Book) (m : Message) (stop : Option ℕ) → IsBook b →
    length (served taken (log_of b m.name) m stop).0 ≤ 17
unfolding served
length-served taken b m stop h =
    let log = log_of b m.name in
    let s = admitted_after log m in
    let later = drained_to log.done (run_end s log.done) stop in
    let a = is_admitted log m (is_servable b m.name h) in
    let d = is_drained log s stop a.all_done in
    let to : later ≤ log.done + window =
    let free = first_free-length s in
    let near = a.none_past in
    let all = d.all_done in
    omega (arith, free, near, all) in
    let one = length-own taken s log.done later (run_end s log.done) m in
    let many = length-verdicts taken s m.name log.done (later - log.done) in
    let sum =
    length-append (verdicts_from taken s m.name log.done (later - log.done))
    (own_reply taken s log.done later (run_end s log.done) m) in
    omega (arith, to, one, many, sum)

pub few_replies : TurnsGiveFewReplies
unfolding turn turn_by
few_replies existed b (Says m) faults h =
    go (is_known b m.name) (nat_le window m.number) (is_full b)
    (is_admissible (log_of b m.name) m.number && faults.refused)
  where
    go : (known far full refused : Bool) →
        length (outcome known far full refused (log_of b m.name) m
        (served (existed m.name) (log_of b m.name) m faults.stop)).0 ≤ 17
    go false true full refused = omega arith
    go false false true refused = omega arith
    go false false false true = omega arith
    go false false false false = length-served (existed m.name) b m faults.stop h
    go true far full true = omega arith
    go true far full false = length-served (existed m.name) b m faults.stop h
few_replies existed b (Asks name n) faults h = omega arith
few_replies existed b Bye faults h = omega arith

-- The book after the replies.

served-admitted : (taken : Bool) (log : Log) (m : Message) (stop : Option ℕ) →
    (served taken log m stop).1.admitted ≡ admitted_after log m
unfolding served
served-admitted taken log m stop = refl

pub replies_report : RepliesReportTheBook
unfolding turn turn_by
replies_report existed b m faults =
    go (is_known b m.name) refl (nat_le window m.number) refl (is_full b) (is_admissible log m.number && faults.refused)
  where
    log : Log
    log = log_of b m.name

    x : List Reply × Log
    x = served (existed m.name) log m faults.stop

    Goal : List Reply × Option Log → Type 0
    Goal y = with_change b m.name y.1 ≡ book_reported b m y.0 (log_of (with_change b m.name y.1) m.name).done

    reported : Log
    reported = record { admitted = admitted_after log m; done = log.done }

    unchanged : (u v : Bool) (l : Log) → u || v ≡ true → b ≡ cond (u || v) b (with_log b m.name l)
    unchanged u v l e = sym (ap (λ (z : Bool). cond z b (with_log b m.name l)) e)

    changed : not (is_known b m.name) && nat_le window m.number ≡ false → Goal (x.0, Some x.1)
    changed near =
        let later : Log =
        record { admitted = admitted_after log m; done = (log_of (with_log b m.name x.1) m.name).done } in
        let same : later ≡ x.1 =
        ap (λ (n : ℕ). record { admitted = admitted_after log m; done = n })
        (ap (λ (l : Log). l.done) (log-with_log_same b m.name x.1))
        ∙ ap (λ (s : List (Option Request)). record { admitted = s; done = x.1.done })
        (sym (served-admitted (existed m.name) log m faults.stop)) in
        let test : (not (is_known b m.name) && nat_le window m.number) || is_turned_away x.0 ≡ false =
        ap (λ (v : Bool). v || is_turned_away x.0) near ∙ served-not_away (existed m.name) log m faults.stop in
        ap (with_log b m.name) (sym same) ∙ sym (ap (λ (v : Bool). cond v b (with_log b m.name later)) test)

    go : (known : Bool) → is_known b m.name ≡ known → (far : Bool) → nat_le window m.number ≡ far →
        (full refused : Bool) → Goal (outcome known far full refused log m x)
    go false k true f full refused =
        unchanged (not (is_known b m.name) && nat_le window m.number) false reported
        (ap (λ (v : Bool). not v && nat_le window m.number || false) k ∙ ap (λ (v : Bool). v || false) f)
    go false k false f true refused =
        unchanged (not (is_known b m.name) && nat_le window m.number) true reported
        (ap (λ (v : Bool). not v && nat_le window m.number || true) k ∙ ap (λ (v : Bool). v || true) f)
    go false k false f false true =
        unchanged (not (is_known b m.name) && nat_le window m.number) true reported
        (ap (λ (v : Bool). not v && nat_le window m.number || true) k ∙ ap (λ (v : Bool). v || true) f)
    go false k false f false false = changed (ap (λ (v : Bool). not v && nat_le window m.number) k ∙ f)
    go true k far f full true =
        unchanged (not (is_known b m.name) && nat_le window m.number) true reported
        (ap (λ (v : Bool). not v && nat_le window m.number || true) k)
    go true k far f full false = changed (ap (λ (v : Bool). not v && nat_le window m.number) k)

-- Delays.

verdicts-not_delayed : (taken : Bool) (s : List (Option Request)) (name : List ℕ) (n k : ℕ) →
    list_any is_delayed (verdicts_from taken s name n k) ≡ false
verdicts-not_delayed taken s name n zero = refl
verdicts-not_delayed taken s name n (suc k) = verdicts-not_delayed taken s name (suc n) k

own-delayed : (taken : Bool) (s : List (Option Request)) (done later end : ℕ) (m : Message) →
    list_any is_delayed (own_reply taken s done later end m) ≡ true → nat_lt later end ≡ true
own-delayed taken s done later end m =
    own_cases (λ rs. list_any is_delayed rs ≡ true → nat_lt later end ≡ true) taken s done later end m
    (λ _ e. absurd (false≢true e)) (λ _ e. absurd (false≢true e)) (λ _ e. absurd (false≢true e))
    (λ _ e. absurd (false≢true e)) (λ short _. short) (λ _ e. absurd (false≢true e))

waits : (s : List (Option Request)) (done later : ℕ) → done ≤ later → later < run_end s done →
    is_some (at s later) ≡ true
waits s done later from below =
    let x = at-first_free (drop done s) (later - done) (omega arith) in
    ap is_some (sym (at-drop done (later - done) later s (omega arith)) ∙ x.1)

served-delayed : (taken : Bool) (log : Log) (m : Message) (stop : Option ℕ) →
    list_any is_delayed (served taken log m stop).0 ≡ true → is_pending (served taken log m stop).1 ≡ true
unfolding served
served-delayed taken log m stop e =
    let s = admitted_after log m in
    let end = run_end s log.done in
    let later = drained_to log.done end stop in
    let own = own_reply taken s log.done later end m in
    let parts = list_any-append is_delayed (verdicts_from taken s m.name log.done (later - log.done)) own in
    let short : list_any is_delayed own ≡ true =
    ap (λ (v : Bool). v || list_any is_delayed own)
    (sym (verdicts-not_delayed taken s m.name log.done (later - log.done))) ∙ sym parts ∙ e in
    waits s log.done later (from stop) (ltb-true later end (own-delayed taken s log.done later end m short))
  where
    from : (o : Option ℕ) → log.done ≤ drained_to log.done (run_end (admitted_after log m) log.done) o
    from None = omega arith
    from (Some k) = omega arith

delayed-short : (existed : List ℕ → Bool) (b : Book) (f : Frame) (faults : Faults) →
    list_any is_delayed (turn existed b f faults).0 ≡ true → stops_short existed b f faults ≡ true
unfolding turn turn_by
delayed-short existed b (Says m) faults e =
    go (is_known b m.name) (nat_le window m.number) (is_full b)
    (is_admissible (log_of b m.name) m.number && faults.refused) e
  where
    x : List Reply × Log
    x = served (existed m.name) (log_of b m.name) m faults.stop

    go : (known far full refused : Bool) →
        list_any is_delayed (outcome known far full refused (log_of b m.name) m x).0 ≡ true →
        option_map_or is_pending (outcome known far full refused (log_of b m.name) m x).1 false ≡ true
    go false true full refused e = absurd (false≢true e)
    go false false true refused e = absurd (false≢true e)
    go false false false true e = absurd (false≢true e)
    go false false false false e = served-delayed (existed m.name) (log_of b m.name) m faults.stop e
    go true far full true e = absurd (false≢true e)
    go true far full false e = served-delayed (existed m.name) (log_of b m.name) m faults.stop e
delayed-short existed b (Asks name n) faults e = absurd (false≢true e)
delayed-short existed b Bye faults e = absurd (false≢true e)

pub delays_counted : DelaysAreCounted
delays_counted existed before after book f replies later t below delayed =
    t.count.rises (delayed-short existed book f t.faults (ap (list_any is_delayed) t.answered ∙ delayed)) below

quiet-drained : (existed : List ℕ → Bool) (b : Book) (m : Message) (faults : Faults) →
    stops_short existed b (Says m) faults ≡ false → is_turned_away (turn existed b (Says m) faults).0 ≡ false →
    is_pending (log_of (turn existed b (Says m) faults).1 m.name) ≡ false
unfolding turn turn_by
quiet-drained existed b m faults quiet kept_here =
    go (is_known b m.name) refl (nat_le window m.number) (is_full b)
    (is_admissible (log_of b m.name) m.number && faults.refused) quiet kept_here
  where
    x : List Reply × Log
    x = served (existed m.name) (log_of b m.name) m faults.stop

    kept : is_pending x.1 ≡ false → is_pending (log_of (with_log b m.name x.1) m.name) ≡ false
    kept q = ap is_pending (log-with_log_same b m.name x.1) ∙ q

    go : (known : Bool) → is_known b m.name ≡ known → (far full refused : Bool) →
        option_map_or is_pending (outcome known far full refused (log_of b m.name) m x).1 false ≡ false →
        is_turned_away (outcome known far full refused (log_of b m.name) m x).0 ≡ false →
        is_pending (log_of (with_change b m.name (outcome known far full refused (log_of b m.name) m x).1) m.name) ≡
        false
    go false k true full refused q a = ap is_pending (unknown_log b m.name k)
    go false k false true refused q a = absurd (false≢true (sym a))
    go false k false false true q a = absurd (false≢true (sym a))
    go false k false false false q a = kept q
    go true k far full true q a = absurd (false≢true (sym a))
    go true k far full false q a = kept q

pub quiet_drains : QuietTurnsDrain
quiet_drains existed before book m replies later t below away =
    ap (λ (b : Book). is_pending (log_of b m.name)) (sym t.left)
    ∙ quiet-drained existed book m t.faults (go (stops_short existed book (Says m) t.faults) refl) (ap is_turned_away t.answered
    ∙ away)
  where
    go : (v : Bool) → stops_short existed book (Says m) t.faults ≡ v → stops_short existed book (Says m) t.faults ≡ false
    go false e = e
    go true e = let up : before ≡ before + 1 = t.count.rises e below in absurd (omega arith)
