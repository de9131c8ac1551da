-- An entry notes a number that wrote to its file if its request was stored and is no MARK.
use Rattle.std.proofs.Common.{◌≡◌, ◌∙◌, ℕ, suc, Bool, true, false, ◌&&◌, ◌||◌, not, List, [], ◌∷◌, ◌++◌, length, Some}
use Rattle.std.proofs.Common.{refl, sym, ap, arith}
use Rattle.std.specs.Prelude.{◌==◌, nat_lt, slice_index, option_map}
use Rattle.std.proofs.lemmas.Bool.{lt-ltb, eq-eqb}
use Rattle.std.proofs.lemmas.List.{append-nil, length-append, get_or-append-add}
use Rattle.bw_model.specs.Take.{Verdict, is_stored}
use Rattle.bw_model.specs.Take.{Stored, NameTaken, AlreadyOpen, NotOpen, Closed, BadFormat, BadBlock, BadMarker}
use Rattle.bw_model.specs.Take.{DuplicateMarker, TooManyMarkers, BadField, WrongTotal}
use Rattle.bw_model.specs.Wire.{kind}
use Rattle.bw_model.specs.Replies.{verdict_code}
use Rattle.bw_journal.specs.Lines.{journal_lines}
use Rattle.bw_journal.specs.Seals.{sealed_line}
use Rattle.bw_journal.specs.Entries.{JournalEntry, noted, content, sealed_entry, first_content, content_of_first}
use Rattle.bw_journal.specs.NotedJournals.{IsNotable}
use Rattle.bw_journal.proofs.EntryLaws.{content-length}
use Rattle.bw_journal.proofs.SealLaws.{sealed_first, opened-line}
use Rattle.bw_folder.specs.FileNotes.{is_unwritten, writes_by, WritesAreNoted}

stored_code : (v : Verdict) → (verdict_code v == 0) ≡ is_stored v
stored_code Stored = refl
stored_code NameTaken = refl
stored_code AlreadyOpen = refl
stored_code NotOpen = refl
stored_code Closed = refl
stored_code BadFormat = refl
stored_code BadBlock = refl
stored_code BadMarker = refl
stored_code DuplicateMarker = refl
stored_code TooManyMarkers = refl
stored_code BadField = refl
stored_code WrongTotal = refl

-- after the digest comes the kind
kind_there : (e : JournalEntry) → length e.digest ≡ 32 → slice_index (content e) 33 ≡ kind e.request
unfolding content
kind_there e h =
    ap (slice_index (e.digest ++ noted e.request)) (omega (arith, h)) ∙ get_or-append-add e.digest (noted e.request) 0 0

verdict_there : (e : JournalEntry) → slice_index (content e) 0 ≡ verdict_code e.verdict
unfolding content
verdict_there e = refl

unwritten_content : (e : JournalEntry) → IsNotable e →
    is_unwritten (content e) ≡ (not (is_stored e.verdict) || (kind e.request == 3))
unwritten_content e h =
    let long = (content-length e h).0 in
    let test : nat_lt 33 (length (content e)) ≡ true = lt-ltb 33 (length (content e)) (omega (arith, long)) in
    ap (λ (b : Bool). b && (not (slice_index (content e) 0 == 0) || (slice_index (content e) 33 == 3))) test
    ∙ ap (λ (n : ℕ). not (n == 0) || (slice_index (content e) 33 == 3)) (verdict_there e)
    ∙ ap (λ (n : ℕ). not (verdict_code e.verdict == 0) || (n == 3)) (kind_there e h.1)
    ∙ ap (λ (b : Bool). not b || (kind e.request == 3)) (stored_code e.verdict)

first_again : (e : JournalEntry) → first_content (sealed_entry e) ≡ Some (content e, length (sealed_entry e))
unfolding first_content
first_again e =
    let long : suc (length (sealed_line (content e))) ≡ length (sealed_entry e) =
    omega (arith, length-append (sealed_line (content e)) (2 ∷ [])) in
    ap (λ (bytes : List ℕ). content_of_first (journal_lines bytes)) (sym (append-nil (sealed_entry e)))
    ∙ ap content_of_first (sealed_first (content e) [])
    ∙ ap (option_map (λ c. (c, suc (length (sealed_line (content e)))))) (opened-line (content e))
    ∙ ap (λ (n : ℕ). Some (content e, n)) long

both : (stored mark : Bool) → not (not stored || mark) ≡ (stored && not mark)
both true mark = refl
both false mark = refl

pub writes_are_noted : WritesAreNoted
writes_are_noted e h =
    let n = length (sealed_entry e) in
    ap (writes_by n) (first_again e)
    ∙ ap (λ (b : Bool). not b || not (is_unwritten (content e))) (eq-eqb n n refl)
    ∙ ap not (unwritten_content e h) ∙ both (is_stored e.verdict) (kind e.request == 3)
