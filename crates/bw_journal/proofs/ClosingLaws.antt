-- The entry of a stored CLOSE notes a close, and no other does.
use Rattle.std.proofs.Common.{◌≡◌, ℕ, Bool, true, ◌&&◌, List, ◌++◌, length}
use Rattle.std.proofs.Common.{refl, ap, ◌∙◌, append_assoc, arith}
use Rattle.std.specs.Prelude.{◌==◌, nat_lt, slice_index}
use Rattle.std.proofs.lemmas.Bool.{lt-ltb}
use Rattle.std.proofs.lemmas.List.{length-append, get_or-append-add}
use Rattle.bw_model.specs.Take.{Request, Open, Block, Mark, SetField, Close, Verdict, is_stored}
use Rattle.bw_model.specs.Take.{Stored, NameTaken, AlreadyOpen, NotOpen, Closed, BadFormat, BadBlock, BadMarker}
use Rattle.bw_model.specs.Take.{DuplicateMarker, TooManyMarkers, BadField, WrongTotal}
use Rattle.bw_model.specs.Wire.{kind}
use Rattle.bw_model.specs.World.{is_close}
use Rattle.bw_model.specs.Replies.{verdict_code}
use Rattle.bw_journal.specs.Seals.{check, sealed_line}
use Rattle.bw_journal.specs.Entries.{JournalEntry, noted, content}
use Rattle.bw_journal.specs.Closings.{is_closing, is_closing_line, closes_first, StoredClosesAreNoted}
use Rattle.bw_journal.specs.NotedJournals.{IsNotable}
use Rattle.bw_journal.proofs.EntryLaws.{content-length}
use Rattle.bw_journal.proofs.SealLaws.{sealed_first}
use Rattle.bw_journal.proofs.StuffLaws.{plain_stuffed}

stored_code : (v : Verdict) → (verdict_code v == 0) ≡ is_stored v
stored_code Stored = refl
stored_code NameTaken = refl
stored_code AlreadyOpen = refl
stored_code NotOpen = refl
stored_code Closed = refl
stored_code BadFormat = refl
stored_code BadBlock = refl
stored_code BadMarker = refl
stored_code DuplicateMarker = refl
stored_code TooManyMarkers = refl
stored_code BadField = refl
stored_code WrongTotal = refl

close_kind : (r : Request) → (kind r == 5) ≡ is_close r
close_kind (Open f history) = refl
close_kind (Block bytes) = refl
close_kind (Mark id frame) = refl
close_kind (SetField tag value) = refl
close_kind (Close total) = refl

-- after the digest comes the kind
kind_there : (e : JournalEntry) (rest : List ℕ) → length e.digest ≡ 32 → slice_index (content e ++ rest) 33 ≡ kind e.request
unfolding content
kind_there e rest h =
    ap (λ (x : List ℕ). slice_index x 32) (append_assoc e.digest (noted e.request) rest)
    ∙ ap (slice_index (e.digest ++ (noted e.request ++ rest))) (omega (arith, h))
    ∙ get_or-append-add e.digest (noted e.request ++ rest) 0 0

first_there : (e : JournalEntry) (rest : List ℕ) → slice_index (content e ++ rest) 0 ≡ verdict_code e.verdict
unfolding content
first_there e rest = refl

closing_content : (e : JournalEntry) (rest : List ℕ) → IsNotable e →
    is_closing (content e ++ rest) ≡ (is_stored e.verdict && is_close e.request)
closing_content e rest h =
    let long = (content-length e h).0 in
    let test : nat_lt 33 (length (content e ++ rest)) ≡ true =
    lt-ltb 33 (length (content e ++ rest)) (omega (arith, long, length-append (content e) rest)) in
    ap (λ (b : Bool). b && (slice_index (content e ++ rest) 0 == 0) && (slice_index (content e ++ rest) 33 == 5)) test
    ∙ ap (λ (n : ℕ). (n == 0) && (slice_index (content e ++ rest) 33 == 5)) (first_there e rest)
    ∙ ap (λ (n : ℕ). (verdict_code e.verdict == 0) && (n == 5)) (kind_there e rest h.1)
    ∙ ap (λ (b : Bool). b && (kind e.request == 5)) (stored_code e.verdict)
    ∙ ap (λ (b : Bool). is_stored e.verdict && b) (close_kind e.request)

pub stored_closes_are_noted : StoredClosesAreNoted
unfolding sealed_line
stored_closes_are_noted e more h =
    ap closes_first (sealed_first (content e) more)
    ∙ ap is_closing_line (plain_stuffed (content e ++ check (content e)))
    ∙ closing_content e (check (content e)) h
