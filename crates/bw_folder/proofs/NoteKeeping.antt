-- Notes that are kept for a commit, after those that a journal has.
use Rattle.std.proofs.Common.{◌≡◌, ◌∙◌, ◌≤◌, ◌+◌, ℕ, List, ◌++◌, Bool, true, false, Option, Some, None, length, refl, sym, ap, subst}
use Rattle.std.proofs.Common.{IsTrue}
use Rattle.std.specs.Prelude.{option_map, Result, Ok, Err, OnOk, OnErr}
use Rattle.std.proofs.lemmas.List.{length-append}
use Rattle.bw_model.proofs.Elements.{some_inj}
use Rattle.bw_journal.specs.JournalHeaders.{header_len}
use Rattle.bw_journal.specs.Notes.{Notes}
use Rattle.bw_folder.specs.PendingNotes.{UnwrittenNotes, waits, noted_with, HoldsPending, NotesEndAt, pushed}
use Rattle.bw_folder.proofs.PendingLaws.{waiting, pends, held, noted_idle, noted_waiting, notes_more, pushed_noted}

-- where the notes end, if nothing is pending
pub ends_idle : (p : UnwrittenNotes) (found : Option (List ℕ)) (len : ℕ) → waits p.bytes ≡ false →
    option_map length found ≡ Some len → NotesEndAt len (noted_with p found)
ends_idle p None len idle is = absurd (cc)
ends_idle p (Some content) len idle is = (content, noted_idle p (Some content) idle, some_inj is)

-- if bytes are
pub ends_waiting : (p : UnwrittenNotes) (found : Option (List ℕ)) → HoldsPending true p found → IsTrue (waits p.bytes) →
    NotesEndAt (p.place + length p.bytes) (noted_with p found)
ends_waiting p found holds w =
    let it = waiting true p found holds w in (
      it.base ++ p.bytes,
      noted_waiting true p found it,
      length-append it.base p.bytes ∙ ap (λ (n : ℕ). n + length p.bytes) it.long,
    )

module _ {T E : Type 0} (r : Result T E) (offset : ℕ) (bytes : List ℕ) (writes : Bool) (p q : UnwrittenNotes)
    (found : Option (List ℕ)) (ends : NotesEndAt offset (noted_with p found)) (headed : header_len ≤ offset)
    (now : OnOk r (q ≡ pushed offset bytes writes p)) (kept : OnErr r (q ≡ p)) (holds : HoldsPending true p found) where
  -- what is pending once bytes are appended to it, or there was no memory for them
  pub kept_holds : HoldsPending true q found
  kept_holds = go r now kept
    where
      go : (r : Result T E) → OnOk r (q ≡ pushed offset bytes writes p) → OnErr r (q ≡ p) → HoldsPending true q found
      go (Ok x) now kept =
          subst (λ (x : UnwrittenNotes). HoldsPending true x found) (sym now)
          (held true (pushed offset bytes writes p) found
          (pushed_noted offset bytes writes p found ends.0 (pends true p found holds) ends.1 ends.2 headed).0)
      go (Err e) now kept = subst (λ (x : UnwrittenNotes). HoldsPending true x found) (sym kept) holds

  -- they are noted
  pub kept_noted : OnOk r (Notes offset bytes (noted_with p found) (noted_with q found))
  kept_noted = go r now
    where
      go : (r : Result T E) → OnOk r (q ≡ pushed offset bytes writes p) →
          OnOk r (Notes offset bytes (noted_with p found) (noted_with q found))
      go (Ok x) now =
          subst (λ (x : UnwrittenNotes). Notes offset bytes (noted_with p found) (noted_with x found)) (sym now)
          (notes_more offset bytes ends.0 (noted_with p found) (noted_with (pushed offset bytes writes p) found) ends.1 ends.2
          (pushed_noted offset bytes writes p found ends.0 (pends true p found holds) ends.1 ends.2 headed).1)
      go (Err e) now = tt

-- Without syncs nothing is pending.
pub plain_idle : (sync : Bool) → sync ≡ false → (p : UnwrittenNotes) (found : Option (List ℕ)) → HoldsPending sync p found →
    waits p.bytes ≡ false
plain_idle sync off p found holds = go (waits p.bytes) refl
  where
    go : (b : Bool) → waits p.bytes ≡ b → waits p.bytes ≡ false
    go true e = absurd (let no : false ≡ true = sym off ∙ (holds e).0 in cc)
    go false e = e
