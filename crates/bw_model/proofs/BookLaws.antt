-- Each turn leaves a book, and a book's names determine its length.
use Rattle.std.proofs.Common.{◌≡◌, ℕ, suc, zero, ◌+◌, ◌<◌, ◌≤◌, Bool, true, false, not, cond, ◌&&◌, ◌||◌, List, [], ◌∷◌}
use Rattle.std.proofs.Common.{length, drop, Option, Some, None, refl, sym, ◌∙◌, ap, subst, arith, rules}
use Rattle.std.specs.Prelude.{IsTrue, is_some, is_none, nat_le, nat_lt}
use Rattle.std.specs.List.{list_all, list_any}
use Rattle.std.specs.Str.{bytes_eq}
use Rattle.std.proofs.lemmas.Bool.{and_parts, and_from, false≢true, ltb-true, leb-false}
use Rattle.bw_model.specs.Bytes.{at, put, first_free}
use Rattle.bw_model.specs.Take.{Request}
use Rattle.bw_model.specs.Wire.{Message, Says, Asks, Bye, Second, last_number, is_name, is_request}
use Rattle.bw_model.specs.ReadBack.{is_admitted as spelled}
use Rattle.bw_model.specs.Replies.{Reply, TooFar, TableFull, NoRoom}
use Rattle.bw_model.specs.Book.{Log, Book, log_of, is_known, with_log, no_log, run_end}
use Rattle.bw_model.specs.Turn.{Faults, turn, turn_by, served, notice, window, most_takes, is_admissible, admitted_after}
use Rattle.bw_model.specs.Turn.{drained_to, is_full, with_change, message_turn}
use Rattle.bw_model.specs.BookRules.{IsLog, HasEachOnce, IsBook, TurnsKeepBooks, NoBookHasANameTwice}
use Rattle.bw_model.specs.BookRules.{NamesReportTheLength}
use Rattle.bw_model.proofs.MapLemmas.{first_free-put}
use Rattle.bw_model.proofs.BookLemmas.{same_name, name_refl, log-with_log_same, log-with_log_other}
use Rattle.bw_model.proofs.BookLemmas.{known-with_log_other, unknown_log}

-- Maps.

length-put : {X : Type 0} (s : List (Option X)) (n b : ℕ) (x : X) → length s ≤ b → n < b → length (put s n x) ≤ b
length-put [] zero b x h below = omega arith
length-put [] (suc n) zero x h below = absurd (omega arith)
length-put [] (suc n) (suc b) x h below =
    let more : length (put [] n x) ≤ b = length-put [] n b x (omega arith) (omega arith) in omega arith
length-put (y ∷ ys) zero b x h below = h
length-put (y ∷ ys) (suc n) zero x h below = absurd (omega arith)
length-put (y ∷ ys) (suc n) (suc b) x h below =
    let more : length (put ys n x) ≤ b = length-put ys n b x (omega arith) (omega arith) in omega arith

some-put : {X : Type 0} (s : List (Option X)) (n : ℕ) (x : X) → list_any is_some (put s n x) ≡ true
some-put [] zero x = refl
some-put [] (suc n) x = some-put [] n x
some-put (y ∷ ys) zero x = refl
some-put (None ∷ ys) (suc n) x = some-put ys n x
some-put (Some y ∷ ys) (suc n) x = refl

pub first_free-length : {X : Type 0} (s : List (Option X)) → first_free s ≤ length s
first_free-length [] = omega arith
first_free-length (None ∷ ys) = omega arith
first_free-length (Some y ∷ ys) = let h : first_free ys ≤ length ys = first_free-length ys in omega arith

-- after numbers that are all in the map
pub first_free-drop : {X : Type 0} (d : ℕ) (s : List (Option X)) → d ≤ first_free s →
    d + first_free (drop d s) ≡ first_free s
first_free-drop zero s h = omega arith
first_free-drop (suc d) [] h = absurd (omega arith)
first_free-drop (suc d) (None ∷ ys) h = absurd (omega arith)
first_free-drop (suc d) (Some y ∷ ys) h =
    let e : d + first_free (drop d ys) ≡ first_free ys = first_free-drop d ys (omega arith) in omega arith

-- One log.

-- what a message may be served after: a log of the book, or none
pub record IsServable (log : Log) : Type 0 where
  pub all_done : log.done ≤ first_free log.admitted
  pub none_past : length log.admitted ≤ log.done + window

-- what the admission of a message leaves
pub record IsAdmitted (log : Log) (s : List (Option Request)) : Type 0 where
  pub all_done : log.done ≤ first_free s
  pub none_past : length s ≤ log.done + window

none_at : (o : Option Request) → is_none o ≡ true → o ≡ None
none_at None e = refl
none_at (Some r) e = absurd (false≢true e)

pub is_admitted : (log : Log) (m : Message) → IsServable log → IsAdmitted log (admitted_after log m)
is_admitted log m h = go (is_admissible log m.number) refl
  where
    go : (v : Bool) → is_admissible log m.number ≡ v →
        IsAdmitted log (cond v (put log.admitted m.number m.request) log.admitted)
    go false e = record { all_done = h.all_done; none_past = h.none_past }
    go true e =
        let both = and_parts (is_none (at log.admitted m.number)) (nat_lt m.number (log.done + window)) e in
        let more : first_free log.admitted ≤ first_free (put log.admitted m.number m.request) =
        first_free-put log.admitted m.number m.request (none_at _ both.0) in
        let done = h.all_done in
        record {
          all_done = omega (arith, more, done);
          none_past =
              length-put log.admitted m.number (log.done + window) m.request h.none_past
              (ltb-true m.number (log.done + window) both.1);
        }

some_admitted : (log : Log) (m : Message) →
    (is_admissible log m.number ≡ false → IsTrue (list_any is_some log.admitted)) →
    IsTrue (list_any is_some (admitted_after log m))
some_admitted log m h = go (is_admissible log m.number) h
  where
    go : (v : Bool) → (v ≡ false → IsTrue (list_any is_some log.admitted)) →
        IsTrue (list_any is_some (cond v (put log.admitted m.number m.request) log.admitted))
    go false h = h refl
    go true h = some-put log.admitted m.number m.request

pub fits-put : (s : List (Option Request)) (n : ℕ) (r : Request) → list_all spelled s ≡ true → is_request r ≡ true →
    list_all spelled (put s n r) ≡ true
fits-put [] zero r h fits = and_from (is_request r) true fits refl
fits-put [] (suc n) r h fits = fits-put [] n r refl fits
fits-put (y ∷ ys) zero r h fits =
    and_from (is_request r) (list_all spelled ys) fits
    (and_parts (spelled y) (list_all spelled ys) h).1
fits-put (y ∷ ys) (suc n) r h fits =
    let both = and_parts (spelled y) (list_all spelled ys) h in
    and_from (spelled y) (list_all spelled (put ys n r)) both.0 (fits-put ys n r both.1 fits)

pub fits_admitted : (log : Log) (m : Message) → IsTrue (list_all spelled log.admitted) → is_request m.request ≡ true →
    IsTrue (list_all spelled (admitted_after log m))
fits_admitted log m h fits = go (is_admissible log m.number)
  where
    go : (v : Bool) → IsTrue (list_all spelled (cond v (put log.admitted m.number m.request) log.admitted))
    go false = h
    go true = fits-put log.admitted m.number m.request h fits

-- where draining ends
pub record IsDrained (log : Log) (s : List (Option Request)) (later : ℕ) : Type 0 where
  pub from : log.done ≤ later
  pub to : later ≤ run_end s log.done
  pub all_done : later ≤ first_free s

pub is_drained : (log : Log) (s : List (Option Request)) (stop : Option ℕ) → log.done ≤ first_free s →
    IsDrained log s (drained_to log.done (run_end s log.done) stop)
is_drained log s stop h = go stop
  where
    end : run_end s log.done ≡ first_free s
    end = first_free-drop log.done s h

    go : (o : Option ℕ) → IsDrained log s (drained_to log.done (run_end s log.done) o)
    go None = record { from = omega (arith, end); to = omega arith; all_done = omega (arith, end) }
    go (Some k) = record { from = omega (arith, end); to = omega arith; all_done = omega (arith, end) }

served_log : (taken : Bool) (log : Log) (m : Message) (stop : Option ℕ) → IsServable log →
    (is_admissible log m.number ≡ false → IsTrue (list_any is_some log.admitted)) →
    IsTrue (list_all spelled log.admitted) → is_request m.request ≡ true → IsLog (served taken log m stop).1
unfolding served
served_log taken log m stop h some were fits =
    let s = admitted_after log m in
    let a = is_admitted log m h in
    let d = is_drained log s stop a.all_done in
    let from = d.from in
    let near = a.none_past in
    record {
      some = some_admitted log m some;
      all_done = d.all_done;
      none_past = omega (arith, from, near);
      fits = fits_admitted log m were fits;
    }

-- Books.

pub apart_sym : (x y : List ℕ) → bytes_eq x y ≡ false → bytes_eq y x ≡ false
apart_sym x y n = go (bytes_eq y x) refl
  where
    go : (v : Bool) → bytes_eq y x ≡ v → v ≡ false
    go false e = refl
    go true e = absurd (false≢true (sym n ∙ ap (λ (z : List ℕ). bytes_eq x z) (same_name y x e) ∙ name_refl x))

once-with_log : (b : Book) (x : List ℕ) (l : Log) → HasEachOnce b → HasEachOnce (with_log b x l)
once-with_log [] x l h = (refl, tt)
once-with_log (e ∷ b) x l h = go (bytes_eq e.0 x) refl (once-with_log b x l h.1)
  where
    go : (v : Bool) → bytes_eq e.0 x ≡ v → HasEachOnce (with_log b x l) →
        HasEachOnce (cond v ((x, l) ∷ b) (e ∷ with_log b x l))
    go true p ih = (ap (is_known b) (sym (same_name e.0 x p)) ∙ h.0, h.1)
    go false p ih = (known-with_log_other b x e.0 l (apart_sym e.0 x p) ∙ h.0, ih)

logs-with_log : (b : Book) (x : List ℕ) (l : Log) → IsLog l →
    ((name : List ℕ) → IsTrue (is_known b name) → IsLog (log_of b name)) → (name : List ℕ) →
    IsTrue (is_known (with_log b x l) name) → IsLog (log_of (with_log b x l) name)
logs-with_log b x l h logs name known = go (bytes_eq x name) refl
  where
    go : (v : Bool) → bytes_eq x name ≡ v → IsLog (log_of (with_log b x l) name)
    go true p =
        subst (λ (z : List ℕ). IsLog (log_of (with_log b x l) z)) (same_name x name p)
        (subst IsLog (sym (log-with_log_same b x l)) h)
    go false p =
        subst IsLog (sym (log-with_log_other b x name l p)) (logs name (sym (known-with_log_other b x name l p)
        ∙ known))

length-with_log_known : (b : Book) (x : List ℕ) (l : Log) → is_known b x ≡ true → length (with_log b x l) ≡ length b
length-with_log_known [] x l k = absurd (false≢true k)
length-with_log_known (e ∷ b) x l k = go (bytes_eq e.0 x) k (length-with_log_known b x l)
  where
    go : (v : Bool) → v || is_known b x ≡ true → (is_known b x ≡ true → length (with_log b x l) ≡ length b) →
        length (cond v ((x, l) ∷ b) (e ∷ with_log b x l)) ≡ suc (length b)
    go true k ih = refl
    go false k ih = ap suc (ih k)

length-with_log : (b : Book) (x : List ℕ) (l : Log) → length (with_log b x l) ≤ suc (length b)
length-with_log [] x l = omega arith
length-with_log (e ∷ b) x l = go (bytes_eq e.0 x) (length-with_log b x l)
  where
    go : (v : Bool) → length (with_log b x l) ≤ suc (length b) →
        length (cond v ((x, l) ∷ b) (e ∷ with_log b x l)) ≤ suc (suc (length b))
    go true ih = omega arith
    go false ih = omega arith

pub length-with_log_grows : (b : Book) (x : List ℕ) (l : Log) → length b ≤ length (with_log b x l)
length-with_log_grows [] x l = omega arith
length-with_log_grows (e ∷ b) x l = go (bytes_eq e.0 x) (length-with_log_grows b x l)
  where
    go : (v : Bool) → length b ≤ length (with_log b x l) →
        suc (length b) ≤ length (cond v ((x, l) ∷ b) (e ∷ with_log b x l))
    go true ih = omega arith
    go false ih = omega arith

-- a log of a book, or none, is one after which a message may be served
pub is_servable : (b : Book) (name : List ℕ) → IsBook b → IsServable (log_of b name)
is_servable b name h = go (is_known b name) refl
  where
    go : (v : Bool) → is_known b name ≡ v → IsServable (log_of b name)
    go false k =
        subst IsServable (sym (unknown_log b name k)) (record { all_done = omega arith; none_past = omega arith })
    go true k = let l = h.logs name k in record { all_done = l.all_done; none_past = l.none_past }

all_fit : (b : Book) (name : List ℕ) → IsBook b → IsTrue (list_all spelled (log_of b name).admitted)
all_fit b name h = go (is_known b name) refl
  where
    go : (v : Bool) → is_known b name ≡ v → IsTrue (list_all spelled (log_of b name).admitted)
    go false k = ap (λ (l : Log). list_all spelled l.admitted) (unknown_log b name k)
    go true k = (h.logs name k).fits

book-with_log : (b : Book) (x : List ℕ) (l : Log) → IsBook b → IsLog l → (is_known b x ≡ false → is_full b ≡ false) →
    IsBook (with_log b x l)
book-with_log b x l h log room = record {
  once = once-with_log b x l h.once;
  logs = logs-with_log b x l log h.logs;
  few = go (is_known b x) refl;
}
  where
    few : length b ≤ most_takes
    few = h.few

    go : (v : Bool) → is_known b x ≡ v → length (with_log b x l) ≤ most_takes
    go true k = let e = length-with_log_known b x l k in omega (arith, e, few)
    go false k =
        let more = length-with_log b x l in
        let free : length b < most_takes = leb-false most_takes (length b) (room k) in
        omega (arith, more, free)

message_keeps : (existed : List ℕ → Bool) (b : Book) (m : Message) (faults : Faults) → is_request m.request ≡ true →
    IsBook b →
    IsBook (message_turn (existed m.name) b m faults).1
unfolding turn_by
message_keeps existed b m faults fit h =
    go (is_known b m.name) refl (nat_le window m.number) refl (is_full b) refl
    (is_admissible log m.number && faults.refused)
  where
    log : Log
    log = log_of b m.name

    Goal : List Reply × Option Log → Type 0
    Goal x = IsBook (with_change b m.name x.1)

    kept : (is_known b m.name ≡ false → is_full b ≡ false) →
        (is_admissible log m.number ≡ false → IsTrue (list_any is_some log.admitted)) →
        Goal ((served (existed m.name) log m faults.stop).0, Some (served (existed m.name) log m faults.stop).1)
    kept room some =
        book-with_log b m.name _ h
        (served_log (existed m.name) log m faults.stop (is_servable b m.name h) some (all_fit b m.name h) fit) room

    admissible : is_known b m.name ≡ false → nat_le window m.number ≡ false → is_admissible log m.number ≡ true
    admissible k near =
        ap (λ (l : Log). is_admissible l m.number) (unknown_log b m.name k) ∙ fits
      where
        fits : is_admissible no_log m.number ≡ true
        fits = search (rules, leb-false window m.number near)

    go : (known : Bool) → is_known b m.name ≡ known → (far : Bool) → nat_le window m.number ≡ far → (full : Bool) →
        is_full b ≡ full → (refused : Bool) →
        Goal (cond (not known && far) (notice m TooFar 0, None) (cond (not known && full) (notice m TableFull 0, None)
        (cond refused (notice m NoRoom log.done, None)
        ((served (existed m.name) log m faults.stop).0, Some (served (existed m.name) log m faults.stop).1))))
    go false k true f full fl refused = h
    go false k false f true fl refused = h
    go false k false f false fl true = h
    go false k false f false fl false = kept (λ _. fl) (λ no. absurd (false≢true (sym no ∙ admissible k f)))
    go true k far f full fl true = h
    go true k far f full fl false = kept (λ no. absurd (false≢true (sym no ∙ k))) (λ no. (h.logs m.name k).some)

pub turns_keep_books : TurnsKeepBooks
unfolding turn
turns_keep_books existed book (Says m) faults spells h =
    let prefix = is_name m.name && nat_le m.number (last_number Second) in
    message_keeps existed book m faults (and_parts prefix (is_request m.request) spells).1 h
turns_keep_books existed book (Asks name n) faults spells h = h
turns_keep_books existed book Bye faults spells h = h

pub empty_book : IsBook []
empty_book = record { once = tt; logs = λ name known. absurd (false≢true known); few = omega arith }

pub no_name_twice : NoBookHasANameTwice
no_name_twice entry book known h = false≢true (sym h.once.0 ∙ known)

-- The length of a book.

-- the book without a name
without : Book → List ℕ → Book
without [] x = []
without (e ∷ b) x = cond (bytes_eq e.0 x) b (e ∷ without b x)

known-without_other : (b : Book) (x y : List ℕ) → bytes_eq x y ≡ false → is_known (without b x) y ≡ is_known b y
unfolding without
known-without_other [] x y n = refl
known-without_other (e ∷ b) x y n = go (bytes_eq e.0 x) refl (known-without_other b x y n)
  where
    go : (v : Bool) → bytes_eq e.0 x ≡ v → is_known (without b x) y ≡ is_known b y →
        is_known (cond v b (e ∷ without b x)) y ≡ is_known (e ∷ b) y
    go true p ih =
        sym (ap (λ (v : Bool). v || is_known b y) (ap (λ (z : List ℕ). bytes_eq z y) (same_name e.0 x p) ∙ n))
    go false p ih = ap (λ (v : Bool). bytes_eq e.0 y || v) ih

known-without_same : (b : Book) (x : List ℕ) → HasEachOnce b → is_known (without b x) x ≡ false
unfolding without
known-without_same [] x h = refl
known-without_same (e ∷ b) x h = go (bytes_eq e.0 x) refl (known-without_same b x h.1)
  where
    go : (v : Bool) → bytes_eq e.0 x ≡ v → is_known (without b x) x ≡ false →
        is_known (cond v b (e ∷ without b x)) x ≡ false
    go true p ih = ap (is_known b) (sym (same_name e.0 x p)) ∙ h.0
    go false p ih = ap (λ (v : Bool). v || is_known (without b x) x) p ∙ ih

once-without : (b : Book) (x : List ℕ) → HasEachOnce b → HasEachOnce (without b x)
unfolding without
once-without [] x h = tt
once-without (e ∷ b) x h = go (bytes_eq e.0 x) refl (once-without b x h.1)
  where
    go : (v : Bool) → bytes_eq e.0 x ≡ v → HasEachOnce (without b x) → HasEachOnce (cond v b (e ∷ without b x))
    go true p ih = h.1
    go false p ih = (known-without_other b x e.0 (apart_sym e.0 x p) ∙ h.0, ih)

length-without : (b : Book) (x : List ℕ) → is_known b x ≡ true → length b ≡ suc (length (without b x))
unfolding without
length-without [] x k = absurd (false≢true k)
length-without (e ∷ b) x k = go (bytes_eq e.0 x) k (length-without b x)
  where
    go : (v : Bool) → v || is_known b x ≡ true → (is_known b x ≡ true → length b ≡ suc (length (without b x))) →
        suc (length b) ≡ suc (length (cond v b (e ∷ without b x)))
    go true k ih = refl
    go false k ih = ap suc (ih k)

same_length : (a b : Book) → HasEachOnce a → HasEachOnce b → ((name : List ℕ) → is_known a name ≡ is_known b name) →
    length a ≡ length b
same_length [] [] ha hb same = refl
same_length [] (e ∷ b) ha hb same =
    absurd (false≢true (same e.0 ∙ ap (λ (v : Bool). v || is_known b e.0) (name_refl e.0)))
same_length (e ∷ a) b ha hb same =
    ap suc (same_length a (without b e.0) ha.1 (once-without b e.0 hb) rest)
    ∙ sym (length-without b e.0 (sym (same e.0) ∙ ap (λ (v : Bool). v || is_known a e.0) (name_refl e.0)))
  where
    rest : (name : List ℕ) → is_known a name ≡ is_known (without b e.0) name
    rest name = go (bytes_eq e.0 name) refl
      where
        go : (v : Bool) → bytes_eq e.0 name ≡ v → is_known a name ≡ is_known (without b e.0) name
        go true p =
            subst (λ (z : List ℕ). is_known a z ≡ is_known (without b e.0) z) (same_name e.0 name p) (ha.0
            ∙ sym (known-without_same b e.0 hb))
        go false p =
            ap (λ (v : Bool). v || is_known a name) (sym p) ∙ same name ∙ sym (known-without_other b e.0 name p)

pub names_report_the_length : NamesReportTheLength
names_report_the_length a b ha hb same = same_length a b ha.once hb.once same
