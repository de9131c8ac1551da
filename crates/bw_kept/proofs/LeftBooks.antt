-- Books of which the first numbers are done.
use Rattle.std.proofs.Common.{◌≡◌, ◌⊎◌, inl, inr, ℕ, zero, suc, ◌<◌, ◌≤◌, Bool, true, false, cond, ◌||◌, List, [], ◌∷◌, take}
use Rattle.std.proofs.Common.{Option, Some, None, is_some, length, refl, sym, ◌∙◌, ap, subst, arith}
use Rattle.std.specs.Prelude.{IsTrue}
use Rattle.std.specs.List.{list_all, list_any}
use Rattle.std.specs.Str.{bytes_eq}
use Rattle.std.proofs.lemmas.Bool.{false≢true, and_parts, and_from}
use Rattle.bw_model.specs.Bytes.{at, first_free}
use Rattle.bw_model.specs.Take.{Request}
use Rattle.bw_model.specs.Book.{Log, Book, log_of, is_known, no_log}
use Rattle.bw_model.specs.BookRules.{IsLog}
use Rattle.bw_model.specs.CountedTurn.{is_pending}
use Rattle.bw_model.specs.ReadBack.{is_admitted}
use Rattle.bw_model.proofs.BookLemmas.{same_name, unknown_log}
use Rattle.bw_journal.specs.NotedJournals.{up_to}
use Rattle.bw_journal.specs.Stops.{cut_log}
use Rattle.bw_kept.specs.LeftFolders.{DoesFewer, LeavesFirst}

-- so many numbers of each name are done
abbrev pub first_book : (List ℕ → ℕ) → Book → Book
first_book kept [] = []
first_book kept (entry ∷ book) = (entry.0, up_to (kept entry.0) entry.1) ∷ first_book kept book

known-first : (kept : List ℕ → ℕ) (book : Book) (name : List ℕ) → is_known (first_book kept book) name ≡ is_known book name
known-first kept [] name = refl
known-first kept (entry ∷ book) name = ap (λ (v : Bool). bytes_eq entry.0 name || v) (known-first kept book name)

log-first : (kept : List ℕ → ℕ) (book : Book) (name : List ℕ) → is_known book name ≡ true →
    log_of (first_book kept book) name ≡ up_to (kept name) (log_of book name)
log-first kept [] name known = absurd (false≢true known)
log-first kept (entry ∷ book) name known = go (bytes_eq entry.0 name) refl known (log-first kept book name)
  where
    go : (v : Bool) → bytes_eq entry.0 name ≡ v → v || is_known book name ≡ true →
        (is_known book name ≡ true → log_of (first_book kept book) name ≡ up_to (kept name) (log_of book name)) →
        log_of (first_book kept (entry ∷ book)) name ≡ up_to (kept name) (log_of (entry ∷ book) name)
    go true e k more =
        ap (λ (v : Bool). cond v (up_to (kept entry.0) entry.1) (log_of (first_book kept book) name)) e
        ∙ ap (λ (x : List ℕ). up_to (kept x) entry.1) (same_name entry.0 name e)
        ∙ sym (ap (λ (v : Bool). up_to (kept name) (cond v entry.1 (log_of book name))) e)
    go false e k more =
        ap (λ (v : Bool). cond v (up_to (kept entry.0) entry.1) (log_of (first_book kept book) name)) e
        ∙ more k
        ∙ sym (ap (λ (v : Bool). up_to (kept name) (cond v entry.1 (log_of book name))) e)

free_above : (s : List (Option Request)) (n : ℕ) → n ≤ first_free s → is_some (at s n) ≡ true → suc n ≤ first_free s
free_above [] n h some = absurd (false≢true some)
free_above (None ∷ s) n h some = let z : n ≡ 0 = omega arith in
    absurd (false≢true (sym (ap (λ (k : ℕ). is_some (at (None ∷ s) k)) z) ∙ some))
free_above (Some r ∷ s) zero h some = omega arith
free_above (Some r ∷ s) (suc n) h some =
    let more : suc n ≤ first_free s = free_above s n (omega arith) some in omega (arith, more)

-- the most numbers that may be done of a log
abbrev pub IsMost : Log → ℕ → Type 0
IsMost log kept = (kept ≤ log.done) ⊎ ((is_pending log ≡ true) × (kept ≡ suc log.done))

-- each of them was admitted
pub most_free : (log : Log) (kept : ℕ) → log.done ≤ first_free log.admitted → IsMost log kept →
    kept ≤ first_free log.admitted
most_free log kept all (inl within) = omega (arith, all, within)
most_free log kept all (inr (waits, is)) =
    let more : suc log.done ≤ first_free log.admitted = free_above log.admitted log.done all waits in
    omega (arith, more, is)

-- The log that is left of these numbers is one.

cut-free : (d : ℕ) (s : List (Option Request)) → d ≤ first_free s → d ≤ first_free (take d s)
cut-free zero s h = omega arith
cut-free (suc d) [] h = absurd (omega arith)
cut-free (suc d) (None ∷ s) h = absurd (omega arith)
cut-free (suc d) (Some r ∷ s) h = let more : d ≤ first_free (take d s) = cut-free d s (omega arith) in omega (arith, more)

cut-some : (d : ℕ) (s : List (Option Request)) → 0 < d → d ≤ first_free s → IsTrue (list_any is_some (take d s))
cut-some zero s some h = absurd (omega (arith, some))
cut-some (suc d) [] some h = absurd (omega arith)
cut-some (suc d) (None ∷ s) some h = absurd (omega arith)
cut-some (suc d) (Some r ∷ s) some h = refl

cut-most : (d : ℕ) (s : List (Option Request)) → length (take d s) ≤ d
cut-most zero s = omega arith
cut-most (suc d) [] = omega arith
cut-most (suc d) (x ∷ s) = let more : length (take d s) ≤ d = cut-most d s in omega (arith, more)

cut-fits : (d : ℕ) (s : List (Option Request)) → list_all is_admitted s ≡ true → list_all is_admitted (take d s) ≡ true
cut-fits zero s h = refl
cut-fits (suc d) [] h = refl
cut-fits (suc d) (x ∷ s) h =
    let both = and_parts (is_admitted x) (list_all is_admitted s) h in
    and_from (is_admitted x) (list_all is_admitted (take d s)) both.0 (cut-fits d s both.1)

pub log_kept : (log : Log) (kept : ℕ) → IsTrue (list_all is_admitted log.admitted) → kept ≤ first_free log.admitted →
    0 < kept → IsLog (cut_log (up_to kept log))
log_kept log kept right free some =
    let most : length (take kept log.admitted) ≤ kept = cut-most kept log.admitted in
    record {
      some = cut-some kept log.admitted some free;
      all_done = cut-free kept log.admitted free;
      none_past = omega (arith, most);
      fits = cut-fits kept log.admitted right;
    }

-- Of a book of which so many numbers are done.
module _ (book : Book) (kept : List ℕ → ℕ) (most : (name : List ℕ) → IsMost (log_of book name) (kept name)) where
  none : (name : List ℕ) → is_known book name ≡ false → (log : Log) → log_of book name ≡ log →
      IsMost log (kept name) → log ≡ no_log → no_log ≡ up_to (kept name) log
  none name unknown log is (inl within) e =
      let zero_done = ap (λ (l : Log). l.done) e in
      let z : 0 ≡ kept name = omega (arith, within, zero_done) in
      ap (λ (k : ℕ). up_to k no_log) z ∙ ap (λ (l : Log). up_to (kept name) l) (sym e)
  none name unknown log is (inr (waits, k)) e =
      absurd (false≢true (sym (ap (λ (l : Log). is_pending l) e) ∙ waits))

  pub log-kept : (name : List ℕ) → log_of (first_book kept book) name ≡ up_to (kept name) (log_of book name)
  log-kept name = go (is_known book name) refl
    where
      go : (v : Bool) → is_known book name ≡ v → log_of (first_book kept book) name ≡ up_to (kept name) (log_of book name)
      go true e = log-first kept book name e
      go false e =
          unknown_log (first_book kept book) name (known-first kept book name ∙ e)
          ∙ none name e (log_of book name) refl (most name) (unknown_log book name e)

  pub leaves_first : LeavesFirst book (first_book kept book)
  leaves_first = record {
    names = known-first kept book;
    logs = λ name. record { kept = kept name; is = log-kept name; most = most name };
  }
