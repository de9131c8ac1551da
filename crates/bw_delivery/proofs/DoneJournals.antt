-- The journal of a log's done numbers, and of the first of them in a later log.
use Rattle.std.proofs.Common.{◌≡◌, ◌⊎◌, inl, inr, ℕ, zero, suc, ◌<◌, ◌≤◌, Bool, true, false, List, [], ◌∷◌, ◌++◌, length, take, Option}
use Rattle.std.proofs.Common.{Some, None, is_some, refl, sym, ◌∙◌, ap, subst, arith, length-append}
use Rattle.std.specs.Prelude.{IsTrue}
use Rattle.std.proofs.lemmas.List.{length-take}
use Rattle.bw_model.specs.Bytes.{at}
use Rattle.bw_model.specs.Take.{Request}
use Rattle.bw_model.specs.Wire.{is_name}
use Rattle.bw_model.specs.Book.{Log, Book, log_of, is_known}
use Rattle.bw_model.specs.BookRules.{IsLog}
use Rattle.bw_model.proofs.BookLemmas.{unknown_log}
use Rattle.bw_journal.specs.Entries.{sealed_entry, sealed_entries}
use Rattle.bw_journal.specs.JournalHeaders.{Header, header_bytes}
use Rattle.bw_journal.specs.NotedJournals.{AdmitsDone, done_entry, entries_from, journal_of, up_to}
use Rattle.bw_journal.specs.Stops.{cut_log}
use Rattle.bw_journal.specs.declared.journal.Journal.{Ghosts as JournalGhosts}
use Rattle.bw_recovery.specs.LeftNames.{header_beside}
use Rattle.bw_session.proofs.ResumeForms.{all_fit, journal_cut}
use Rattle.bw_kept.specs.DiskNotes.{Covers, StayCommitted, StaysCommitted}
use Rattle.bw_delivery.specs.Lives.{KeepsDoneNumbers}

-- each log of a book admits its done numbers
pub book_admits : (book : Book) → ((name : List ℕ) → is_known book name ≡ true → IsLog (log_of book name)) →
    (name : List ℕ) → AdmitsDone (log_of book name)
book_admits book logs name = go (is_known book name) refl
  where
    go : (v : Bool) → is_known book name ≡ v → AdmitsDone (log_of book name)
    go true e =
        let l = logs name e in
        let all = all_fit (log_of book name).admitted (log_of book name).done l.all_done l.fits in
        record { long = all.0; each = all.1 }
    go false e = subst AdmitsDone (sym (unknown_log book name e)) (record { long = refl; each = refl })

-- lists with the same first places begin alike
take_same : (n : ℕ) (s t : List (Option Request)) → length (take n s) ≡ n → length (take n t) ≡ n →
    ((k : ℕ) → k < n → at t k ≡ at s k) → take n t ≡ take n s
take_same zero s t a b same = refl
take_same (suc n) [] t a b same = absurd (omega (arith, a))
take_same (suc n) (x ∷ s) [] a b same = absurd (omega (arith, b))
take_same (suc n) (x ∷ s) (y ∷ t) a b same =
    ap (λ (z : Option Request). z ∷ take n t) (same 0 (omega arith))
    ∙ ap (λ (zs : List (Option Request)). x ∷ zs)
    (take_same n s t (omega (arith, a)) (omega (arith, b)) (λ k below. same (suc k) (omega (arith, below))))

-- the first numbers of a later log have the same journal
pub journal_first : (taken : Bool) (h : Header) (name : List ℕ) (old log : Log) → AdmitsDone old → AdmitsDone log →
    KeepsDoneNumbers taken old log → journal_of h name old ≡ journal_of h name (up_to old.done log)
journal_first taken h name old log a b k =
    let few = k.done in
    let whole = b.long in
    let long = length-take log.done log.admitted in
    let short = length-take old.done log.admitted in
    let same : take old.done log.admitted ≡ take old.done old.admitted =
    take_same old.done old.admitted log.admitted a.long (omega (arith, few, whole, long, short)) k.requests in
    sym (journal_cut h name old)
    ∙ ap (λ (s : List (Option Request)). journal_of h name (record { admitted = s; done = old.done })) (sym same)
    ∙ journal_cut h name (up_to old.done log)

-- and no longer one than the later log
entries_fewer : (existed : Bool) (s : List (Option Request)) (name : List ℕ) (k n m : ℕ) (xs : List (Option Request)) →
    n ≤ m → length (sealed_entries (entries_from existed s name k (take n xs)))
    ≤ length (sealed_entries (entries_from existed s name k (take m xs)))
entries_fewer existed s name k zero m xs few = omega arith
entries_fewer existed s name k (suc n) zero xs few = absurd (omega (arith, few))
entries_fewer existed s name k (suc n) (suc m) [] few = omega arith
entries_fewer existed s name k (suc n) (suc m) (None ∷ xs) few = omega arith
entries_fewer existed s name k (suc n) (suc m) (Some r ∷ xs) few =
    let entry : List ℕ = sealed_entry (done_entry existed s name k r) in
    let fewer = entries_fewer existed s name (suc k) n m xs (omega (arith, few)) in
    let one = length-append entry (sealed_entries (entries_from existed s name (suc k) (take n xs))) in
    let two = length-append entry (sealed_entries (entries_from existed s name (suc k) (take m xs))) in
    omega (arith, fewer, one, two)

pub journal_shorter : (h : Header) (name : List ℕ) (log : Log) (n : ℕ) → n ≤ log.done →
    length (journal_of h name (up_to n log)) ≤ length (journal_of h name log)
journal_shorter h name log n few =
    let fewer = entries_fewer h.existed log.admitted name 0 n log.done log.admitted few in
    let one = length-append (header_bytes name h)
    (sealed_entries (entries_from h.existed log.admitted name 0 (take n log.admitted))) in
    let two = length-append (header_bytes name h)
    (sealed_entries (entries_from h.existed log.admitted name 0 (take log.done log.admitted))) in
    omega (arith, fewer, one, two)

-- What is covered stays so in a turn on a later book.
module _ {Y : Type 0} (J : JournalGhosts Y) (limit : ℕ) (first : List ℕ → Option (List ℕ)) where
  pub covered_on : (least book : Book) (old new : Y) → ((name : List ℕ) → AdmitsDone (log_of least name)) →
      ((name : List ℕ) → AdmitsDone (log_of book name)) →
      ((name : List ℕ) → KeepsDoneNumbers (is_some (first name)) (log_of least name) (log_of book name)) →
      StayCommitted J limit first book old new → Covers J limit first old least → Covers J limit first new least
  covered_on least book old new a b keeps stay covers name named some = go (stay name)
    where
      h : Header
      h = header_beside limit (first name)

      log : Log
      log = log_of least name

      go : StaysCommitted h name (log_of book name) (J.committed old name) (J.committed new name) →
          length (journal_of h name log) ≤ J.committed new name
      go (inl more) = let was = covers name named some in omega (arith, was, more)
      go (inr all) =
          let few = (keeps name).done in
          let most = all (omega (arith, some, few)) in
          let short = journal_shorter h name (log_of book name) log.done few in
          let same = ap (λ (xs : List ℕ). length xs)
          (journal_first (is_some (first name)) h name log (log_of book name) (a name) (b name) (keeps name)) in
          omega (arith, most, short, same)
