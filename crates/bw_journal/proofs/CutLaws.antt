-- What a stop leaves of a book.
use Rattle.std.proofs.Common.{◌≡◌, ℕ, zero, suc, ◌<◌, ◌≤◌, Bool, true, false, cond, not, ◌||◌, ◌⊎◌, inl, inr, IsTrue}
use Rattle.std.proofs.Common.{List, [], ◌∷◌, take, length, Option, Some, None, refl, sym, ◌∙◌, ap, subst, arith}
use Rattle.std.specs.Prelude.{fold, nat_lt, is_some}
use Rattle.std.specs.List.{list_all, list_any}
use Rattle.std.specs.Str.{bytes_eq}
use Rattle.std.proofs.lemmas.List.{take-take}
use Rattle.std.proofs.lemmas.Bool.{and_from, and_parts, ltb-false, ltb-true, false≢true}
use Rattle.bw_model.specs.Bytes.{at, first_free}
use Rattle.bw_model.specs.Take.{Request, new_take}
use Rattle.bw_model.specs.Book.{Log, Book, no_log, log_of, is_known, made, step, verdict_at, verdict_by}
use Rattle.bw_model.proofs.BookLemmas.{same_name}
use Rattle.bw_journal.specs.Stops.{cut_log, without, cut_book, BooksAreCut, CutBooksAreBooks}
use Rattle.bw_model.specs.BookRules.{IsLog, HasEachOnce}
use Rattle.bw_model.specs.Turn.{most_takes}
use Rattle.bw_model.specs.ReadBack.{is_admitted}
use Rattle.bw_model.proofs.BookLemmas.{unknown_log}

none_some : {X : Type 0} {x : X} → None ≡ Some x → ⊥
none_some e = cc

-- places of a prefix
pub at-take : {X : Type 0} (d n : ℕ) (s : List (Option X)) → n < d → at (take d s) n ≡ at s n
at-take zero n s h = absurd (omega arith)
at-take (suc d) n [] h = refl
at-take (suc d) zero (y ∷ ys) h = refl
at-take (suc d) (suc n) (y ∷ ys) h = at-take d n ys (omega arith)

pub at-take_some : {X : Type 0} (d n : ℕ) (s : List (Option X)) (x : X) → at (take d s) n ≡ Some x → at s n ≡ Some x
at-take_some zero n s x e = absurd (none_some e)
at-take_some (suc d) n [] x e = absurd (none_some e)
at-take_some (suc d) zero (y ∷ ys) x e = e
at-take_some (suc d) (suc n) (y ∷ ys) x e = at-take_some d n ys x e

pub made-cut : (taken : Bool) (s : List (Option Request)) (d n : ℕ) → n ≤ d → made taken (take d s) n ≡ made taken s n
unfolding made
made-cut taken s d n h = ap (fold step (new_take taken)) (take-take n d s h)

-- the verdicts of the done numbers stay
pub verdict-cut : (taken : Bool) (s : List (Option Request)) (d n : ℕ) → n < d →
    verdict_at taken (take d s) n ≡ verdict_at taken s n
verdict-cut taken s d n h =
    ap (λ (o : Option Request). verdict_by (made taken (take d s) n) o) (at-take d n s h)
    ∙ ap (λ (t : _). verdict_by t (at s n)) (made-cut taken s d n (omega arith))

-- what is looked up in a book: of the name's entry, or of the books without it
record LooksUp (X : Type 0) (y : List ℕ) (up : Book → X) : Type 0 where
  of : List ℕ × Log → X
  step : (entry : List ℕ × Log) (book : Book) → up (entry ∷ book) ≡ cond (bytes_eq entry.0 y) (of entry) (up book)

-- in a book without a name nothing is found under it
up-without_same : {X : Type 0} (y : List ℕ) (up : Book → X) → LooksUp X y up → (book : Book) (x : List ℕ) →
    bytes_eq x y ≡ true → up (without x book) ≡ up []
up-without_same y up l [] x e = refl
up-without_same {X} y up l (entry ∷ book) x e = go (bytes_eq entry.0 x) refl (up-without_same y up l book x e)
  where
    go : (v : Bool) → bytes_eq entry.0 x ≡ v → up (without x book) ≡ up [] →
        up (cond (not v) (entry ∷ without x book) (without x book)) ≡ up []
    go true p ih = ih
    go false p ih =
        let off : bytes_eq entry.0 y ≡ false = sym (ap (bytes_eq entry.0) (same_name x y e)) ∙ p in
        l.step entry (without x book)
        ∙ ap (λ (v : Bool). cond v (l.of entry) (up (without x book))) off ∙ ih

-- under the other names what was found before
up-without_other : {X : Type 0} (y : List ℕ) (up : Book → X) → LooksUp X y up → (book : Book) (x : List ℕ) →
    bytes_eq x y ≡ false → up (without x book) ≡ up book
up-without_other y up l [] x e = refl
up-without_other {X} y up l (entry ∷ book) x e = go (bytes_eq entry.0 x) refl (up-without_other y up l book x e)
  where
    go : (v : Bool) → bytes_eq entry.0 x ≡ v → up (without x book) ≡ up book →
        up (cond (not v) (entry ∷ without x book) (without x book)) ≡ up (entry ∷ book)
    go true p ih =
        let off : bytes_eq entry.0 y ≡ false = ap (λ (z : List ℕ). bytes_eq z y) (same_name entry.0 x p) ∙ e in
        ih ∙ sym (l.step entry book ∙ ap (λ (v : Bool). cond v (l.of entry) (up book)) off)
    go false p ih =
        l.step entry (without x book)
        ∙ ap (λ (z : X). cond (bytes_eq entry.0 y) (l.of entry) z) ih ∙ sym (l.step entry book)

logs_up : (y : List ℕ) → LooksUp Log y (λ book. log_of book y)
logs_up y = record { of = λ entry. entry.1; step = λ entry book. refl }

names_up : (y : List ℕ) → LooksUp Bool y (λ book. is_known book y)
names_up y = record { of = λ _. true; step = λ entry book. either (bytes_eq entry.0 y) (is_known book y) }
  where
    either : (a b : Bool) → a || b ≡ cond a true b
    either true b = refl
    either false b = refl

pub log-without_same : (book : Book) (x y : List ℕ) → bytes_eq x y ≡ true → log_of (without x book) y ≡ no_log
log-without_same book x y e = up-without_same y (λ b. log_of b y) (logs_up y) book x e

pub log-without_other : (book : Book) (x y : List ℕ) → bytes_eq x y ≡ false → log_of (without x book) y ≡ log_of book y
log-without_other book x y e = up-without_other y (λ b. log_of b y) (logs_up y) book x e

pub known-without_same : (book : Book) (x y : List ℕ) → bytes_eq x y ≡ true → is_known (without x book) y ≡ false
known-without_same book x y e = up-without_same y (λ b. is_known b y) (names_up y) book x e

pub known-without_other : (book : Book) (x y : List ℕ) → bytes_eq x y ≡ false →
    is_known (without x book) y ≡ is_known book y
known-without_other book x y e = up-without_other y (λ b. is_known b y) (names_up y) book x e

-- a log of which nothing is done is left as none
nothing_done : (log : Log) → nat_lt 0 log.done ≡ false → cut_log log ≡ no_log
nothing_done log e =
    let zero_done : log.done ≡ 0 = (let h = ltb-false 0 log.done e in omega arith) in
    ap (λ (d : ℕ). record { admitted = take d log.admitted; done = d }) zero_done

pub logs_cut : (book : Book) (name : List ℕ) → log_of (cut_book book) name ≡ cut_log (log_of book name)
logs_cut [] name = refl
logs_cut (entry ∷ book) name = go (nat_lt 0 entry.1.done) refl (bytes_eq entry.0 name) refl (logs_cut book name)
  where
    go : (d : Bool) → nat_lt 0 entry.1.done ≡ d → (v : Bool) → bytes_eq entry.0 name ≡ v →
        log_of (cut_book book) name ≡ cut_log (log_of book name)
        → log_of (cond d ((entry.0, cut_log entry.1) ∷ cut_book book) (without entry.0 (cut_book book))) name ≡ cut_log
        (cond (bytes_eq entry.0 name) entry.1 (log_of book name))
    go true some v same ih = pick v same ih
      where
        pick : (v : Bool) → bytes_eq entry.0 name ≡ v → log_of (cut_book book) name ≡ cut_log (log_of book name)
            → cond (bytes_eq entry.0 name) (cut_log entry.1) (log_of (cut_book book) name) ≡ cut_log
            (cond (bytes_eq entry.0 name) entry.1 (log_of book name))
        pick true same ih = rw same refl
        pick false same ih = rw same ih
    go false some true same ih = log-without_same (cut_book book) entry.0 name same ∙ sym (nothing_done entry.1 some)
        ∙ rw same refl
    go false some false same ih = log-without_other (cut_book book) entry.0 name same ∙ ih ∙ rw same refl

knows_cut : (book : Book) (name : List ℕ) → is_known (cut_book book) name ≡ nat_lt 0 (log_of book name).done
knows_cut [] name = refl
knows_cut (entry ∷ book) name = go (nat_lt 0 entry.1.done) refl (bytes_eq entry.0 name) refl (knows_cut book name)
  where
    go : (d : Bool) → nat_lt 0 entry.1.done ≡ d → (v : Bool) → bytes_eq entry.0 name ≡ v →
        is_known (cut_book book) name ≡ nat_lt 0 (log_of book name).done
        → is_known (cond d ((entry.0, cut_log entry.1) ∷ cut_book book) (without entry.0 (cut_book book))) name ≡ nat_lt
        0 (cond (bytes_eq entry.0 name) entry.1 (log_of book name)).done
    go true some true same ih = rw same (sym some)
    go true some false same ih = rw same ih
    go false some true same ih = known-without_same (cut_book book) entry.0 name same ∙ rw same (sym some)
    go false some false same ih = known-without_other (cut_book book) entry.0 name same ∙ ih ∙ rw same refl

pub books_are_cut : BooksAreCut
books_are_cut book = record { logs = logs_cut book; known = knows_cut book }

-- What is left is a book.

cut-done : (d : ℕ) (s : List (Option Request)) → d ≤ first_free s → d ≤ first_free (take d s)
cut-done zero s h = omega arith
cut-done (suc d) [] h = absurd (omega arith)
cut-done (suc d) (None ∷ s) h = absurd (omega arith)
cut-done (suc d) (Some r ∷ s) h = let more : d ≤ first_free (take d s) = cut-done d s (omega arith) in omega arith

some_left : (d : ℕ) (s : List (Option Request)) → 0 < d → d ≤ first_free s → IsTrue (list_any is_some (take d s))
some_left zero s some h = absurd (omega arith)
some_left (suc d) [] some h = absurd (omega arith)
some_left (suc d) (None ∷ s) some h = absurd (omega arith)
some_left (suc d) (Some r ∷ s) some h = refl

length-take_most : {X : Type 0} (d : ℕ) (s : List X) → length (take d s) ≤ d
length-take_most zero s = omega arith
length-take_most (suc d) [] = omega arith
length-take_most (suc d) (x ∷ s) = let more : length (take d s) ≤ d = length-take_most d s in omega arith

fits-take : (d : ℕ) (s : List (Option Request)) → list_all is_admitted s ≡ true → list_all is_admitted (take d s) ≡ true
fits-take zero s h = refl
fits-take (suc d) [] h = refl
fits-take (suc d) (x ∷ s) h =
    let both = and_parts (is_admitted x) (list_all is_admitted s) h in
    and_from (is_admitted x) (list_all is_admitted (take d s)) both.0 (fits-take d s both.1)

pub log_left : (log : Log) → IsLog log → 0 < log.done → IsLog (cut_log log)
log_left log h some =
    let most : length (take log.done log.admitted) ≤ log.done = length-take_most log.done log.admitted in
    record {
      some = some_left log.done log.admitted some h.all_done;
      all_done = cut-done log.done log.admitted h.all_done;
      none_past = omega (arith, most);
      fits = fits-take log.done log.admitted h.fits;
    }

known-without : (book : Book) (x y : List ℕ) → is_known book y ≡ false → is_known (without x book) y ≡ false
known-without book x y e = go (bytes_eq x y) refl
  where
    go : (v : Bool) → bytes_eq x y ≡ v → is_known (without x book) y ≡ false
    go true same = known-without_same book x y same
    go false other = known-without_other book x y other ∙ e

pub once-without : (book : Book) (x : List ℕ) → HasEachOnce book → HasEachOnce (without x book)
once-without [] x h = tt
once-without (entry ∷ book) x h = go (bytes_eq entry.0 x) (once-without book x h.1)
  where
    go : (v : Bool) → HasEachOnce (without x book) →
        HasEachOnce (cond (not v) (entry ∷ without x book) (without x book))
    go true further = further
    go false further = (known-without book x entry.0 h.0, further)

once-cut : (book : Book) → HasEachOnce book → HasEachOnce (cut_book book)
once-cut [] h = tt
once-cut (entry ∷ book) h = go (nat_lt 0 entry.1.done) (once-cut book h.1)
  where
    unknown : is_known (cut_book book) entry.0 ≡ false
    unknown = knows_cut book entry.0 ∙ ap (λ (log : Log). nat_lt 0 log.done) (unknown_log book entry.0 h.0)

    go : (v : Bool) → HasEachOnce (cut_book book) →
        HasEachOnce (cond v ((entry.0, cut_log entry.1) ∷ cut_book book) (without entry.0 (cut_book book)))
    go true further = (unknown, further)
    go false further = once-without (cut_book book) entry.0 further

pub length-without : (book : Book) (x : List ℕ) → length (without x book) ≤ length book
length-without [] x = omega arith
length-without (entry ∷ book) x = go (bytes_eq entry.0 x) (length-without book x)
  where
    go : (v : Bool) → length (without x book) ≤ length book →
        length (cond (not v) (entry ∷ without x book) (without x book)) ≤ length (entry ∷ book)
    go true more = omega arith
    go false more = omega arith

length-cut : (book : Book) → length (cut_book book) ≤ length book
length-cut [] = omega arith
length-cut (entry ∷ book) =
    go (nat_lt 0 entry.1.done) (length-cut book) (length-without (cut_book book) entry.0)
  where
    go : (v : Bool) → length (cut_book book) ≤ length book →
        length (without entry.0 (cut_book book)) ≤ length (cut_book book) →
        length (cond v ((entry.0, cut_log entry.1) ∷ cut_book book) (without entry.0 (cut_book book)))
        ≤ length (entry ∷ book)
    go true more less = omega arith
    go false more less = omega arith

true_or_false : (v : Bool) → (v ≡ true) ⊎ (v ≡ false)
true_or_false true = inl refl
true_or_false false = inr refl

pub cut_books_are_books : CutBooksAreBooks
cut_books_are_books book h = record {
  once = once-cut book h.once;
  logs = λ name known. logs name known (true_or_false (is_known book name));
  few = (let least = length-cut book in let few : length book ≤ most_takes = h.few in omega (arith, least, few));
}
  where
    logs : (name : List ℕ) → IsTrue (is_known (cut_book book) name) →
        (is_known book name ≡ true) ⊎ (is_known book name ≡ false) → IsLog (log_of (cut_book book) name)
    logs name known (inl was) =
        let some : 0 < (log_of book name).done = ltb-true 0 _ (sym (knows_cut book name) ∙ known) in
        subst IsLog (sym (logs_cut book name)) (log_left (log_of book name) (h.logs name was) some)
    logs name known (inr unknown) =
        absurd (false≢true (ap (λ (log : Log). nat_lt 0 log.done) (sym (unknown_log book name unknown))
        ∙ sym (knows_cut book name) ∙ known))
