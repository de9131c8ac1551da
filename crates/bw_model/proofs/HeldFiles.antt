-- An honest store has what a held book's takes make of it.
use Rattle.std.proofs.Common.{◌≡◌, ℕ, Bool, true, false, cond, List, Option, Some, None, refl, sym, ◌∙◌, ap, ◌⊎◌, inl}
use Rattle.std.proofs.Common.{inr}
use Rattle.std.specs.Prelude.{is_some}
use Rattle.std.specs.Bool.{MatchBool}
use Rattle.std.proofs.lemmas.Bool.{false≢true, true≢false}
use Rattle.bw_model.specs.Take.{Take, Request, Closed, parts, judge, judge_open, is_stored, verdict}
use Rattle.bw_model.specs.File.{file_of}
use Rattle.bw_model.specs.Book.{Log, Book, is_known, made}
use Rattle.bw_model.specs.Exchange.{take_in}
use Rattle.bw_model.specs.Holds.{Kept, HasFile, IsInTheMiddle, HeldBooksLeaveFiles, NameTakenIsKnown}
use Rattle.bw_model.proofs.BookLemmas.{unknown_log}

-- nothing is stored on a closed take
closed_refuses : (t : Take) (r : Request) → t.closed ≡ true → is_stored (verdict t r) ≡ false
unfolding judge
closed_refuses t r closed = ap (λ (v : Bool). is_stored (cond v Closed (judge_open (parts t) t.format r))) closed

-- a file under whose name nothing waits is whole
whole_file : (t : Take) (limit : ℕ) (waits : Option Request) (kept : Kept) (found : Option (List ℕ)) →
    HasFile t limit waits kept found →
    (is_some waits ≡ false) ⊎ (t.closed ≡ true) → found ≡ file_of t limit
whole_file t limit waits kept found h quiet = go kept.dirty h.whole
  where
    never : IsInTheMiddle t limit waits found → (is_some waits ≡ false) ⊎ (t.closed ≡ true) → ⊥
    never m (inl none) = true≢false (ap is_some (sym m.waiting) ∙ none)
    never m (inr closed) = false≢true (sym (closed_refuses t m.request closed) ∙ m.to_store)

    go : (dirty : Bool) → MatchBool dirty (IsInTheMiddle t limit waits found) (found ≡ file_of t limit) →
        found ≡ file_of t limit
    go false whole = whole
    go true middle = absurd (never middle quiet)

no_file : (book : Book) (name : List ℕ) (limit : ℕ) → is_known book name ≡ false →
    file_of (take_in false book name) limit ≡ None
unfolding made
no_file book name limit unknown =
    ap (λ (log : Log). file_of (made false log.admitted log.done) limit) (unknown_log book name unknown)

pub held_files : HeldBooksLeaveFiles
held_files limit store kept_of book h honest name quiet = existed (store.first name) refl
  where
    known : (v : Bool) → is_known book name ≡ v → store.first name ≡ None →
        store.contents name ≡ file_of (take_in false book name) limit
    known false e none = h.others honest name (inr e) ∙ none ∙ sym (no_file book name limit e)
    known true e none = kept (kept_of name) refl (sym (h.names name) ∙ e)
      where
        kept : (k : Option Kept) → kept_of name ≡ k → is_some (kept_of name) ≡ true →
            store.contents name ≡ file_of (take_in false book name) limit
        kept None k some = absurd (false≢true (sym (ap is_some k) ∙ some))
        kept (Some x) k some =
            whole_file (take_in false book name) limit _ x (store.contents name) (h.files honest name x k none) quiet

    existed : (o : Option (List ℕ)) → store.first name ≡ o →
        store.contents name ≡ elim o [ Some bytes ↦ Some bytes | None ↦ file_of (take_in false book name) limit ]
    existed None e = known (is_known book name) refl e
    existed (Some bytes) e = h.others honest name (inl (ap is_some e)) ∙ e

pub name_taken_known : NameTakenIsKnown
name_taken_known existed name log kept n h below reported = (h.reported n below reported, h.taken (h.reported n below reported))
