-- The file of a take whose requests are all stored, one of them a CLOSE, however that is known.
use Rattle.std.proofs.Common.{◌≡◌, ℕ, suc, ◌<◌, ◌≤◌, Bool, true, false, List, [], ◌∷◌, length, take, Option, Some}
use Rattle.std.proofs.Common.{None, refl, sym, ◌∙◌, ap, subst, arith, inr, zero, IsTrue}
use Rattle.std.specs.Prelude.{slice_get, fold, is_some}
use Rattle.std.specs.List.{list_any}
use Rattle.std.proofs.lemmas.List.{take_all}
use Rattle.bw_model.specs.Bytes.{at}
use Rattle.bw_model.specs.Take.{Take, Request, Stored, new_take, after, verdict}
use Rattle.bw_model.specs.File.{file_of}
use Rattle.bw_model.specs.Book.{Log, Book, log_of, made, made_by, step, verdict_at, verdict_by}
use Rattle.bw_model.specs.Turn.{Faults, book_after}
use Rattle.bw_model.specs.Wire.{Frame}
use Rattle.bw_model.specs.Exchange.{take_in}
use Rattle.bw_model.specs.Holds.{Holds, Kept, Store}
use Rattle.bw_model.specs.World.{is_close}
use Rattle.bw_model.proofs.Elements.{get-below}
use Rattle.bw_model.proofs.HeldFiles.{held_files}
use Rattle.bw_model.proofs.TrueReplies.{IsSound}
use Rattle.bw_model.proofs.VerdictLaws.{admitted_stays}
use Rattle.bw_delivery.specs.Deliveries.{stands_in}
use Rattle.bw_delivery.proofs.ClosedLaws.{AreStored, closed_made, stored_closes, taken_refuses, done_stays}
use Rattle.bw_delivery.proofs.DoneRequests.{AreFirst, sound_first, made_of_first}

-- each is stored where the verdict of each number is Stored
stored_from : (t : Take) (rs : List Request) →
    ((n : ℕ) (r : Request) → slice_get rs n ≡ Some r → verdict (fold after t (take n rs)) r ≡ Stored) → AreStored t rs
stored_from t [] h = tt
stored_from t (r ∷ rs) h = (h 0 r refl, stored_from (after t r) rs (λ n q e. h (suc n) q e))

-- what is left where each request was heard to be stored
pub record IsWholeTake (taken : Bool) (requests : List Request) (log : Log) : Type 0 where
  pub same : log.done ≡ length requests
  pub first : AreFirst requests log.admitted log.done
  pub stored : AreStored (new_take taken) requests

pub whole_take : (taken : Bool) (requests : List Request) (log : Log) → IsSound requests log →
    log.done ≡ length requests → ((n : ℕ) → n < length requests → Stored ≡ verdict_at taken log.admitted n) →
    IsWholeTake taken requests log
unfolding made
whole_take taken requests log sound same verdicts =
    let first = sound_first requests log sound in
    record {
      same = same;
      first = first;
      stored = stored_from (new_take taken) requests (λ n r e.
          let below : n < length requests = get-below requests n r e in
          let x = first n (omega (arith, below, same)) in
          let is : at log.admitted n ≡ Some r = x.1 ∙ sym x.2 ∙ e in
          let made_so : fold step (new_take taken) (take n log.admitted) ≡ made_by taken (take n requests) =
          made_of_first taken requests log.admitted n (λ k b. first k (omega (arith, b, below, same))) in
          ap (λ (t : Take). verdict t r) (sym made_so)
          ∙ ap (verdict_by (fold step (new_take taken) (take n log.admitted))) (sym is) ∙ sym (verdicts n below));
    }

pub not_taken : (taken : Bool) (requests : List Request) → AreStored (new_take taken) requests →
    list_any is_close requests ≡ true → taken ≡ false
not_taken taken [] h any = absurd cc
not_taken false (r ∷ rs) h any = refl
not_taken true (r ∷ rs) h any = absurd (taken_refuses r h.0)

pub closed_file : (limit : ℕ) (store : Store) (kept_of : List ℕ → Option Kept) (name : List ℕ) (requests : List Request)
    (later : Book) (ts : List (Frame × Faults)) → IsWholeTake (stands_in store name) requests (log_of later name) →
    IsTrue (list_any is_close requests) → IsTrue store.honest →
    Holds limit store kept_of (book_after (stands_in store) later ts) →
    store.contents name ≡ file_of (made_by false requests) limit
unfolding made
closed_file limit store kept_of name requests later ts w any honest holds =
    let existed = stands_in store in
    let free : existed name ≡ false = not_taken (existed name) requests w.stored any in
    let old : Log = log_of later name in
    let last : Book = book_after existed later ts in
    let new : Log = log_of last name in
    let more : old.done ≤ new.done = done_stays existed later ts name in
    let first : AreFirst requests new.admitted old.done =
    λ n below. let x = w.first n below in (x.0, admitted_stays existed later ts name n x.0 x.1, x.2) in
    let made_so : fold step (new_take false) (take old.done new.admitted) ≡ made_by false requests =
    made_of_first false requests new.admitted old.done first
    ∙ ap (made_by false) (take_all old.done requests (let s = w.same in omega (arith, s))) in
    let closed : (made_by false requests).closed ≡ true =
    stored_closes (new_take false) requests (subst (λ (v : Bool). AreStored (new_take v) requests) free w.stored) any in
    let whole : take_in false last name ≡ made_by false requests =
    closed_made (new_take false) new.admitted old.done new.done more
    (ap (λ (t : Take). t.closed) made_so ∙ closed) ∙ made_so in
    held_files limit store kept_of last holds honest name (inr (ap (λ (t : Take). t.closed) whole ∙ closed))
    ∙ content (store.first name) free ∙ ap (λ (t : Take). file_of t limit) whole
  where
    content : (o : Option (List ℕ)) → is_some o ≡ false →
        elim o [
          | Some bytes ↦ Some bytes
          | None ↦ file_of (take_in false (book_after (stands_in store) later ts) name) limit
        ]
        ≡ file_of (take_in false (book_after (stands_in store) later ts) name) limit
    content None e = refl
    content (Some bytes) e = absurd cc

-- once each request has its verdict all are done, and the take is what they make
pub all_made : (taken : Bool) (name : List ℕ) (requests : List Request) (later : Book) →
    (log_of later name).done ≤ length requests →
    take_in taken later name ≡ made_by taken (take (log_of later name).done requests) →
    ((n : ℕ) → n < length requests → n < (log_of later name).done) →
    ((log_of later name).done ≡ length requests) × (take_in taken later name ≡ made_by taken requests)
all_made taken name requests later most is each =
    let log : Log = log_of later name in
    let least = at_least (length requests) refl in
    let same : log.done ≡ length requests = omega (arith, most, least) in
    (same, is ∙ ap (made_by taken) (take_all log.done requests (omega (arith, same))))
  where
    at_least : (count : ℕ) → length requests ≡ count → length requests ≤ (log_of later name).done
    at_least zero e = omega (arith, e)
    at_least (suc n) e = let below = each n (omega (arith, e)) in omega (arith, e, below)
