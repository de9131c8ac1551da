-- A number's first verdict is its only one.
use Rattle.std.proofs.Common.{◌≡◌, ℕ, suc, zero, ◌+◌, ◌-◌, ◌<◌, ◌≤◌, Bool, true, false, not, cond, ◌&&◌, ◌||◌, List, []}
use Rattle.std.proofs.Common.{◌∷◌}
use Rattle.std.proofs.Common.{◌++◌, Option, Some, None, refl, sym, ◌∙◌, ap, subst, arith}
use Rattle.std.specs.Prelude.{is_none, nat_le, nat_lt, flat_map}
use Rattle.std.specs.List.{Contains}
use Rattle.std.specs.Str.{bytes_eq}
use Rattle.std.proofs.lemmas.Bool.{false≢true, and_parts, leb-true, ltb-true, lt-ltb}
use Rattle.std.proofs.lemmas.List.Elements.{Contains-push}
use Rattle.bw_model.specs.Bytes.{at, put}
use Rattle.bw_model.specs.Take.{Request, Verdict}
use Rattle.bw_model.specs.Wire.{Message, Frame, Says, Asks, Bye}
use Rattle.bw_model.specs.Replies.{Reply, Judged, Noticed, Notice, Held, TooFar, Conflict, TableFull, NoRoom}
use Rattle.bw_model.specs.Replies.{DelayedStore, Next}
use Rattle.bw_model.specs.Book.{Log, Book, log_of, is_known, with_log, run_end, verdict_at}
use Rattle.bw_model.specs.Turn.{Faults, turn, turn_by, served, own_reply, verdicts_from, window, is_admissible}
use Rattle.bw_model.specs.Turn.{admitted_after, drained_to, is_repeat, is_full, with_change, run}
use Rattle.bw_model.specs.Turn.{book_after, repeats, is_turned_away}
use Rattle.bw_model.specs.BookRules.{IsBook}
use Rattle.bw_model.specs.CountedTurn.{book_reported}
use Rattle.bw_model.specs.Verdicts.{AdmittedStays, VerdictsStay, VerdictsAreTrue, RepeatsAreReported, RunsReportOneVerdict}
use Rattle.bw_model.proofs.Elements.{Each, each-append, each-map}
use Rattle.bw_model.proofs.MapLemmas.{IsFilled, filled_to, filled-put, verdict-put, at-first_free, at-put_other}
use Rattle.bw_model.proofs.BookLemmas.{same_name, unknown_log, log-with_log_same, log-with_log_other}
use Rattle.bw_model.proofs.BookLaws.{is_servable}
use Rattle.bw_model.proofs.OwnReplies.{drained, own_cases}
use Rattle.bw_model.proofs.TurnLaws.{outcome, replies_report}
use Rattle.bw_model.proofs.TrueReplies.{Grows, IsTrueReply, judged_true, verdicts_true}
use Rattle.bw_model.proofs.OtherTurns.{IsOf, other_reply, message_of}

-- a verdict on this name in a reply is that of a done number
abbrev ReportsRound : Bool → List ℕ → Log → Reply → Type 0
ReportsRound taken name log r = (n : ℕ) (v : Verdict) → r ≡ Judged name n v →
    (n < log.done) × (v ≡ verdict_at taken log.admitted n)

-- what a turn does to one name's log
record Keeps (taken : Bool) (name : List ℕ) (old new : Log) (replies : List Reply) : Type 0 where
  filled : IsFilled new.admitted new.done
  grows : Grows taken old new
  reported : Each (ReportsRound taken name new) replies

notice_reports : (taken : Bool) (name x : List ℕ) (log : Log) (k next : ℕ) (code : Notice) →
    ReportsRound taken name log (Noticed x k code next)
notice_reports taken name x log k next code n v e = absurd (not_judged e)
  where
    not_judged : Noticed x k code next ≡ Judged name n v → ⊥
    not_judged e = cc

-- nothing changed
kept : (taken : Bool) (name : List ℕ) (log : Log) (replies : List Reply) → IsFilled log.admitted log.done →
    Each (ReportsRound taken name log) replies → Keeps taken name log log replies
kept taken name log replies filled reported =
    record { filled = filled; grows = record { done = omega arith; verdicts = λ n h. refl }; reported = reported }

-- What was admitted.

none_at : (o : Option Request) → is_none o ≡ true → o ≡ None
none_at None e = refl
none_at (Some r) e = absurd (false≢true e)

not_both : {A : Type 0} {o : Option Request} {r : Request} → o ≡ None → o ≡ Some r → A
not_both none some = absurd (apart (sym none ∙ some))
  where
    apart : {r : Request} → None ≡ Some r → ⊥
    apart e = cc

admitted_kept : (log : Log) (m : Message) (n : ℕ) (r : Request) → at log.admitted n ≡ Some r →
    at (admitted_after log m) n ≡ Some r
admitted_kept log m n r is = go (is_admissible log m.number) refl
  where
    go : (v : Bool) → is_admissible log m.number ≡ v →
        at (cond v (put log.admitted m.number m.request) log.admitted) n ≡ Some r
    go false e = is
    go true e =
        let free : at log.admitted m.number ≡ None =
        none_at _ (and_parts (is_none (at log.admitted m.number)) (nat_lt m.number (log.done + window)) e).0 in
        at-put_other log.admitted m.number n m.request
        (λ same. not_both free (sym (ap (at log.admitted) same) ∙ is))
        ∙ is

reported_admitted : (b : Book) (m : Message) (replies : List Reply) (done : ℕ) (name : List ℕ) (n : ℕ) (r : Request) →
    at (log_of b name).admitted n ≡ Some r → at (log_of (book_reported b m replies done) name).admitted n ≡ Some r
reported_admitted b m replies done name n r is =
    go ((not (is_known b m.name) && nat_le window m.number) || is_turned_away replies) (bytes_eq m.name name) refl
  where
    new : Log
    new = record { admitted = admitted_after (log_of b m.name) m; done = done }

    own : (x : List ℕ) → m.name ≡ x → at (log_of b x).admitted n ≡ Some r →
        at (log_of (with_log b m.name new) x).admitted n ≡ Some r
    own x e was =
        ap (λ (z : List ℕ). at (log_of (with_log b m.name new) z).admitted n) (sym e)
        ∙ ap (λ (l : Log). at l.admitted n) (log-with_log_same b m.name new)
        ∙ admitted_kept (log_of b m.name) m n r (ap (λ (z : List ℕ). at (log_of b z).admitted n) e ∙ was)

    go : (v w : Bool) → bytes_eq m.name name ≡ w →
        at (log_of (cond v b (with_log b m.name new)) name).admitted n ≡ Some r
    go true w e = is
    go false true e = own name (same_name m.name name e) is
    go false false e = ap (λ (l : Log). at l.admitted n) (log-with_log_other b m.name name new e) ∙ is

asked_book : (existed : List ℕ → Bool) (b : Book) (x : List ℕ) (n : ℕ) (faults : Faults) →
    (turn existed b (Asks x n) faults).1 ≡ b
unfolding turn
asked_book existed b x n faults = refl

bye_book : (existed : List ℕ → Bool) (b : Book) (faults : Faults) → (turn existed b Bye faults).1 ≡ b
unfolding turn
bye_book existed b faults = refl

turn_admitted : (existed : List ℕ → Bool) (b : Book) (f : Frame) (faults : Faults) (name : List ℕ) (n : ℕ) (r : Request) →
    at (log_of b name).admitted n ≡ Some r → at (log_of (turn existed b f faults).1 name).admitted n ≡ Some r
turn_admitted existed b (Says m) faults name n r is =
    ap (λ (z : Book). at (log_of z name).admitted n) (replies_report existed b m faults)
    ∙ reported_admitted b m (turn existed b (Says m) faults).0 (log_of (turn existed b (Says m) faults).1 m.name).done name n r is
turn_admitted existed b (Asks x k) faults name n r is =
    ap (λ (z : Book). at (log_of z name).admitted n) (asked_book existed b x k faults) ∙ is
turn_admitted existed b Bye faults name n r is =
    ap (λ (z : Book). at (log_of z name).admitted n) (bye_book existed b faults) ∙ is

pub admitted_stays : AdmittedStays
admitted_stays existed book [] name n r is = is
admitted_stays existed book (t ∷ ts) name n r is =
    admitted_stays existed (turn existed book t.0 t.1).1 ts name n r (turn_admitted existed book t.0 t.1 name n r is)

-- One message.

-- what the message's admission leaves
record IsAdmission (taken : Bool) (log : Log) (s : List (Option Request)) : Type 0 where
  filled : IsFilled s log.done
  same : (n : ℕ) → n < log.done → verdict_at taken s n ≡ verdict_at taken log.admitted n

admission : (taken : Bool) (log : Log) (m : Message) → IsFilled log.admitted log.done →
    IsAdmission taken log (admitted_after log m)
admission taken log m filled = go (is_admissible log m.number) refl
  where
    go : (v : Bool) → is_admissible log m.number ≡ v →
        IsAdmission taken log (cond v (put log.admitted m.number m.request) log.admitted)
    go false e = record { filled = filled; same = λ n b. refl }
    go true e =
        let free : at log.admitted m.number ≡ None =
        none_at _ (and_parts (is_none (at log.admitted m.number)) (nat_lt m.number (log.done + window)) e).0 in
        record {
          filled = filled-put log.admitted m.number m.request log.done filled free;
          same = λ n b. verdict-put taken log.admitted m.number m.request log.done n filled free b;
        }

own_reports : (taken : Bool) (s : List (Option Request)) (done later end : ℕ) (m : Message) → done ≤ later →
    Each (ReportsRound taken m.name (record { admitted = s; done = later })) (own_reply taken s done later end m)
own_reports taken s done later end m from =
    own_cases (λ rs. Each (ReportsRound taken m.name log) rs) taken s done later end m
    (λ _. notice_here TooFar) (λ _. notice_here Conflict) (λ _. tt)
    (λ e. let h : m.number < done = ltb-true m.number done e in
    ((judged_true taken m.name log m.number (omega arith)).judged, tt))
    (λ _. notice_here DelayedStore) (λ _. notice_here Held)
  where
    log : Log
    log = record { admitted = s; done = later }

    notice_here : (code : Notice) → Each (ReportsRound taken m.name log) (Noticed m.name m.number code later ∷ [])
    notice_here code = (notice_reports taken m.name m.name log m.number later code, tt)

served_keeps : (taken : Bool) (log : Log) (m : Message) (stop : Option ℕ) → IsFilled log.admitted log.done →
    Keeps taken m.name log (served taken log m stop).1 (served taken log m stop).0
unfolding served
served_keeps taken log m stop filled =
    let s = admitted_after log m in
    let a = admission taken log m filled in
    let end = run_end s log.done in
    let d = drained log.done end stop (omega arith) in
    let later = drained_to log.done end stop in
    let new : Log = record { admitted = s; done = later } in
    record {
      filled = filled_to s log.done later a.filled d.to;
      grows = record { done = d.from; verdicts = a.same };
      reported = each-append (ReportsRound taken m.name new) _ _
          (each-map (IsTrueReply taken m.name new) (ReportsRound taken m.name new) _ (λ r h. h.judged)
          (verdicts_true taken m.name new log.done (later - log.done) (let f = d.from in omega (arith, f))))
          (own_reports taken s log.done later end m d.from);
    }

-- the message's own name
own_keeps : (existed : List ℕ → Bool) (b : Book) (m : Message) (faults : Faults) →
    IsFilled (log_of b m.name).admitted (log_of b m.name).done →
    Keeps (existed m.name) m.name (log_of b m.name) (log_of (turn existed b (Says m) faults).1 m.name)
    (turn existed b (Says m) faults).0
unfolding turn turn_by
own_keeps existed b m faults filled =
    go (is_known b m.name) (nat_le window m.number) (is_full b) (is_admissible log m.number && faults.refused)
  where
    log : Log
    log = log_of b m.name

    x : List Reply × Log
    x = served (existed m.name) log m faults.stop

    Goal : List Reply × Option Log → Type 0
    Goal y = Keeps (existed m.name) m.name log (log_of (with_change b m.name y.1) m.name) y.0

    noticed : (code : Notice) (next : ℕ) → Goal (Noticed m.name m.number code next ∷ [], None)
    noticed code next =
        kept (existed m.name) m.name log _ filled (notice_reports (existed m.name) m.name m.name log m.number next code, tt)

    changed : Goal (x.0, Some x.1)
    changed =
        subst (λ (l : Log). Keeps (existed m.name) m.name log l x.0) (sym (log-with_log_same b m.name x.1))
        (served_keeps (existed m.name) log m faults.stop filled)

    go : (known far full refused : Bool) → Goal (outcome known far full refused log m x)
    go false true full refused = noticed TooFar 0
    go false false true refused = noticed TableFull 0
    go false false false true = noticed NoRoom log.done
    go false false false false = changed
    go true far full true = noticed NoRoom log.done
    go true far full false = changed

-- another name
other_keeps : (existed : List ℕ → Bool) (name : List ℕ) (b : Book) (m : Message) (faults : Faults) →
    bytes_eq m.name name ≡ false → IsFilled (log_of b name).admitted (log_of b name).done →
    Keeps (existed name) name (log_of b name) (log_of (turn existed b (Says m) faults).1 name)
    (turn existed b (Says m) faults).0
unfolding turn
other_keeps existed name b m faults off filled =
    let x = turn_by (existed m.name) (is_known b m.name) (is_full b) (log_of b m.name) m faults in
    subst (λ (l : Log). Keeps (existed name) name (log_of b name) l x.0) (sym (same x.1))
    (kept (existed name) name (log_of b name) x.0 filled
    (each-map (IsOf m.name) (ReportsRound (existed name) name (log_of b name)) x.0
    (λ r h. (other_reply (existed name) name m.name (log_of b name) r off h).judged)
    (message_of (existed m.name) (is_known b m.name) (is_full b) (log_of b m.name) m faults)))
  where
    same : (c : Option Log) → log_of (with_change b m.name c) name ≡ log_of b name
    same None = refl
    same (Some l) = log-with_log_other b m.name name l off

-- Turns.

-- the done numbers are admitted, of each name
abbrev AreFilled : Book → Type 0
AreFilled b = (name : List ℕ) → IsFilled (log_of b name).admitted (log_of b name).done

book_filled : (b : Book) → IsBook b → AreFilled b
book_filled b h name k below =
    let all = (is_servable b name h).all_done in
    at-first_free (log_of b name).admitted k (omega (arith, all, below))

asked_keeps : (existed : List ℕ → Bool) (b : Book) (x : List ℕ) (n : ℕ) (faults : Faults) (name : List ℕ) →
    IsFilled (log_of b name).admitted (log_of b name).done →
    Keeps (existed name) name (log_of b name) (log_of (turn existed b (Asks x n) faults).1 name)
    (turn existed b (Asks x n) faults).0
unfolding turn
asked_keeps existed b x n faults name filled =
    kept (existed name) name (log_of b name) _ filled
    (notice_reports (existed name) name x (log_of b name) n (log_of b x).done Next, tt)

bye_keeps : (existed : List ℕ → Bool) (b : Book) (faults : Faults) (name : List ℕ) →
    IsFilled (log_of b name).admitted (log_of b name).done →
    Keeps (existed name) name (log_of b name) (log_of (turn existed b Bye faults).1 name) (turn existed b Bye faults).0
unfolding turn
bye_keeps existed b faults name filled = kept (existed name) name (log_of b name) [] filled tt

turn_keeps : (existed : List ℕ → Bool) (b : Book) (f : Frame) (faults : Faults) → AreFilled b → (name : List ℕ) →
    Keeps (existed name) name (log_of b name) (log_of (turn existed b f faults).1 name) (turn existed b f faults).0
turn_keeps existed b (Says m) faults filled name = go (bytes_eq m.name name) refl
  where
    go : (v : Bool) → bytes_eq m.name name ≡ v →
        Keeps (existed name) name (log_of b name) (log_of (turn existed b (Says m) faults).1 name)
        (turn existed b (Says m) faults).0
    go true e =
        subst (λ (z : List ℕ). Keeps (existed z) z (log_of b z) (log_of (turn existed b (Says m) faults).1 z)
        (turn existed b (Says m) faults).0) (same_name m.name name e) (own_keeps existed b m faults (filled m.name))
    go false e = other_keeps existed name b m faults e (filled name)
turn_keeps existed b (Asks x n) faults filled name = asked_keeps existed b x n faults name (filled name)
turn_keeps existed b Bye faults filled name = bye_keeps existed b faults name (filled name)

filled_after : (existed : List ℕ → Bool) (b : Book) (f : Frame) (faults : Faults) → AreFilled b →
    AreFilled (turn existed b f faults).1
filled_after existed b f faults filled name = (turn_keeps existed b f faults filled name).filled

run_filled : (existed : List ℕ → Bool) (b : Book) (ts : List (Frame × Faults)) → AreFilled b →
    AreFilled (book_after existed b ts)
run_filled existed b [] filled = filled
run_filled existed b (t ∷ ts) filled =
    run_filled existed (turn existed b t.0 t.1).1 ts (filled_after existed b t.0 t.1 filled)

grows_on : (taken : Bool) (a b c : Log) → Grows taken a b → Grows taken b c → Grows taken a c
grows_on taken a b c g h =
    let first = g.done in
    let second = h.done in
    record {
      done = omega (arith, first, second);
      verdicts = λ n below. h.verdicts n (omega (arith, first, below)) ∙ g.verdicts n below;
    }

run_grows : (existed : List ℕ → Bool) (b : Book) (ts : List (Frame × Faults)) → AreFilled b → (name : List ℕ) →
    Grows (existed name) (log_of b name) (log_of (book_after existed b ts) name)
run_grows existed b [] filled name = record { done = omega arith; verdicts = λ n h. refl }
run_grows existed b (t ∷ ts) filled name =
    let later = (turn existed b t.0 t.1).1 in
    grows_on (existed name) (log_of b name) (log_of later name) (log_of (book_after existed later ts) name)
    (turn_keeps existed b t.0 t.1 filled name).grows
    (run_grows existed later ts (filled_after existed b t.0 t.1 filled) name)

pub verdicts_stay : VerdictsStay
verdicts_stay existed book ts h name n below =
    let g = run_grows existed book ts (book_filled book h) name in
    let more = g.done in
    ((let b : n < (log_of (book_after existed book ts) name).done = omega (arith, more, below) in b), g.verdicts n below)

-- What is reported.

each-contains : {X : Type 0} (P : X → Type 0) (xs : List X) (x : X) → Each P xs → Contains xs x → P x
each-contains P [] x h (k, below, e) = absurd (omega arith)
each-contains P (y ∷ ys) x h (zero, below, e) = subst P e h.0
each-contains P (y ∷ ys) x h (suc k, below, e) = each-contains P ys x h.1 (k, omega arith, e)

pub verdicts_true_reported : VerdictsAreTrue
verdicts_true_reported existed book f faults h name n v said =
    let log : Log = log_of (turn existed book f faults).1 name in
    each-contains (ReportsRound (existed name) name log) (turn existed book f faults).0 (Judged name n v)
    (turn_keeps existed book f faults (book_filled book h) name).reported said n v refl

reports_on : (taken : Bool) (name : List ℕ) (old new : Log) → Grows taken old new → (r : Reply) →
    ReportsRound taken name old r → ReportsRound taken name new r
reports_on taken name old new g r h n v e =
    let x = h n v e in
    let below : n < old.done = x.0 in
    let more = g.done in
    ((let b : n < new.done = omega (arith, below, more) in b), x.1 ∙ sym (g.verdicts n below))

run_reports : (existed : List ℕ → Bool) (b : Book) (ts : List (Frame × Faults)) → AreFilled b → (name : List ℕ) →
    Each (ReportsRound (existed name) name (log_of (book_after existed b ts) name)) (flat_map (λ t. t.replies) (run existed b ts))
run_reports existed b [] filled name = tt
run_reports existed b (t ∷ ts) filled name =
    let later = (turn existed b t.0 t.1).1 in
    let last : Log = log_of (book_after existed later ts) name in
    let following = filled_after existed b t.0 t.1 filled in
    each-append (ReportsRound (existed name) name last) (turn existed b t.0 t.1).0 _
    (each-map (ReportsRound (existed name) name (log_of later name)) (ReportsRound (existed name) name last) (turn existed b t.0 t.1).0
    (reports_on (existed name) name (log_of later name) last (run_grows existed later ts following name))
    (turn_keeps existed b t.0 t.1 filled name).reported) (run_reports existed later ts following name)

pub one_verdict : RunsReportOneVerdict
one_verdict existed book ts h name n v w first second =
    let each = run_reports existed book ts (book_filled book h) name in
    let log : Log = log_of (book_after existed book ts) name in
    let a = each-contains (ReportsRound (existed name) name log) _ (Judged name n v) each first n v refl in
    let b = each-contains (ReportsRound (existed name) name log) _ (Judged name n w) each second n w refl in a.1 ∙ sym b.1

-- Repeats.

-- nothing is admitted under a done number
not_again : (log : Log) (n : ℕ) → IsFilled log.admitted log.done → n < log.done → is_admissible log n ≡ false
not_again log n filled below =
    let x = filled n below in
    ap (λ (o : Option Request). is_none o && nat_lt n (log.done + window)) x.1

own_verdict : (taken : Bool) (s : List (Option Request)) (done later end : ℕ) (m : Message) → m.number < done →
    is_repeat s m ≡ true →
    own_reply taken s done later end m ≡ Judged m.name m.number (verdict_at taken s m.number) ∷ []
unfolding own_reply
own_verdict taken s done later end m below same =
    go (nat_le (done + window) m.number) refl (is_repeat s m) same (nat_le done m.number) refl (nat_lt m.number done)
    (lt-ltb m.number done below)
  where
    last : List Reply
    last = Judged m.name m.number (verdict_at taken s m.number) ∷ []

    go : (v : Bool) → nat_le (done + window) m.number ≡ v → (w : Bool) → w ≡ true → (x : Bool) →
        nat_le done m.number ≡ x → (y : Bool) → y ≡ true →
        cond v (Noticed m.name m.number TooFar later ∷ [])
        (cond (not w) (Noticed m.name m.number Conflict later ∷ [])
        (cond (x && nat_lt m.number later) []
        (cond y (Judged m.name m.number (verdict_at taken s m.number) ∷ [])
        (cond (nat_lt later end) (Noticed m.name m.number DelayedStore later ∷ [])
        (Noticed m.name m.number Held later ∷ []))))) ≡ last
    go true e w f x g y h = let over : done + window ≤ m.number = leb-true (done + window) m.number e in
        absurd (omega arith)
    go false e false f x g y h = absurd (false≢true f)
    go false e true f true g y h = let over : done ≤ m.number = leb-true done m.number g in absurd (omega arith)
    go false e true f false g false h = absurd (false≢true h)
    go false e true f false g true h = refl

served_repeat : (taken : Bool) (log : Log) (m : Message) (stop : Option ℕ) → is_admissible log m.number ≡ false →
    m.number < log.done → is_repeat log.admitted m ≡ true →
    Contains (served taken log m stop).0 (Judged m.name m.number (verdict_at taken log.admitted m.number))
unfolding served
served_repeat taken log m stop again below same =
    subst (λ (s : List (Option Request)). Contains
    (verdicts_from taken s m.name log.done (drained_to log.done (run_end s log.done) stop - log.done)
    ++ own_reply taken s log.done (drained_to log.done (run_end s log.done) stop) (run_end s log.done) m) reported)
    (sym (ap (λ (v : Bool). cond v (put log.admitted m.number m.request) log.admitted) again))
    (subst (λ (own : List Reply). Contains (prefix ++ own) reported)
    (sym (own_verdict taken log.admitted log.done later (run_end log.admitted log.done) m below same))
    (Contains-push prefix reported))
  where
    reported : Reply
    reported = Judged m.name m.number (verdict_at taken log.admitted m.number)

    later : ℕ
    later = drained_to log.done (run_end log.admitted log.done) stop

    prefix : List Reply
    prefix = verdicts_from taken log.admitted m.name log.done (later - log.done)

repeat_reported : (existed : List ℕ → Bool) (b : Book) (m : Message) (faults : Faults) → AreFilled b →
    m.number < (log_of b m.name).done → is_repeat (log_of b m.name).admitted m ≡ true →
    Contains (turn existed b (Says m) faults).0
    (Judged m.name m.number (verdict_at (existed m.name) (log_of b m.name).admitted m.number))
unfolding turn turn_by
repeat_reported existed b m faults filled below same =
    go (is_known b m.name) refl (nat_le window m.number) (is_full b)
    (is_admissible log m.number && faults.refused) (ap (λ (v : Bool). v && faults.refused) again)
  where
    log : Log
    log = log_of b m.name

    reported : Reply
    reported = Judged m.name m.number (verdict_at (existed m.name) log.admitted m.number)

    again : is_admissible log m.number ≡ false
    again = not_again log m.number (filled m.name) below

    go : (known : Bool) → is_known b m.name ≡ known → (far full refused : Bool) → refused ≡ false →
        Contains (outcome known far full refused log m (served (existed m.name) log m faults.stop)).0 reported
    go false k far full refused off =
        let none : log.done ≡ 0 = ap (λ (l : Log). l.done) (unknown_log b m.name k) in absurd (omega arith)
    go true k far full true off = absurd (false≢true (sym off))
    go true k far full false off = served_repeat (existed m.name) log m faults.stop again below same

pub repeats_reported : RepeatsAreReported
repeats_reported existed book ts m faults h below same =
    let filled = book_filled book h in
    let later = book_after existed book ts in
    let grows = run_grows existed book ts filled m.name in
    let more = grows.done in
    let body = filled m.name m.number below in
    let stays = admitted_stays existed book ts m.name m.number body.0 body.1 in
    let again : is_repeat (log_of later m.name).admitted m ≡ true =
    ap (repeats m) stays ∙ sym (ap (repeats m) body.1) ∙ same in
    subst (λ (v : Verdict). Contains (turn existed later (Says m) faults).0 (Judged m.name m.number v))
    (grows.verdicts m.number below)
    (repeat_reported existed later m faults (run_filled existed book ts filled) (omega (arith, more, below)) again)
