-- In which order numbers are written, through the numbers of a turn.
use Rattle.std.proofs.Common.{◌≡◌, ◌⊎◌, inl, inr, ℕ, zero, suc, ◌+◌, ◌-◌, ◌≤◌, ◌||◌, Bool, true, false, cond, List, []}
use Rattle.std.proofs.Common.{◌++◌, take, Option, Some, None, length, refl, sym, ◌∙◌, ap, subst, arith}
use Rattle.std.proofs.lemmas.List.{append-nil}
use Rattle.std.specs.Prelude.{is_some, slice_set, nat_lt, nat_le}
use Rattle.bw_model.specs.Bytes.{at}
use Rattle.bw_model.specs.Take.{Request}
use Rattle.bw_model.specs.Wire.{Message, message_body}
use Rattle.bw_model.specs.Book.{Log}
use Rattle.bw_model.specs.CountedTurn.{is_pending}
use Rattle.bw_model.proofs.Elements.{some_inj}
use Rattle.bw_journal.specs.JournalHeaders.{Header, header_bytes}
use Rattle.bw_journal.specs.Notes.{IsPrefixOf}
use Rattle.bw_journal.specs.NotedJournals.{journal_of}
use Rattle.bw_wire.specs.Bodies.{message_in}
use Rattle.bw_session.specs.ConsecutiveCalls.{window_with}
use Rattle.bw_session.specs.KeptParts.{Part}
use Rattle.bw_session.specs.NameNotes.{entry_if, next_entry, HasEntries, IsNoted}
use Rattle.bw_session.specs.WriteOrders.{IsCarriedOut, NextIsCarriedOut, HasNothingPast}
use Rattle.bw_session.proofs.AdmitForms.{at-set_other}
use Rattle.bw_session.proofs.OrderForms.{begun_length, take_most}

-- the request that waits in the first slot
pub carried_next : (a : Part) (body : List ℕ) (r : Request) → at a.window 0 ≡ Some body →
    r ≡ (message_in body).request → NextIsCarriedOut a → IsCarriedOut a.growing a.parts r
carried_next a body r here read carried =
    subst (λ (q : Request). IsCarriedOut a.growing a.parts q)
    (ap (λ (b : List ℕ). (message_in b).request) (some_inj (sym carried.1 ∙ here)) ∙ sym read) carried.2

pub next_carried : (a : Part) (body : List ℕ) (r : Request) → at a.window 0 ≡ Some body →
    r ≡ (message_in body).request → IsCarriedOut a.growing a.parts r → NextIsCarriedOut a
next_carried a body r here read carried =
    (body, here, subst (λ (q : Request). IsCarriedOut a.growing a.parts q) read carried)

-- if none waits there
pub none_carried : (a : Part) → at a.window 0 ≡ None → NextIsCarriedOut a → ⊥
none_carried a free carried = no_some (sym free ∙ carried.1)
  where
    no_some : {b : List ℕ} → None ≡ Some b → ⊥
    no_some e = cc

-- a message that is admitted leaves it there
first_stays : (w : List (Option (List ℕ))) (done : ℕ) (m : Message) (body : List ℕ) → at w 0 ≡ Some body →
    at (window_with w done m) 0 ≡ Some body
first_stays w done m body here =
    go (nat_lt m.number done || nat_le (done + 16) m.number || is_some (at w (m.number - done))) refl
  where
    or_true : (a b : Bool) → (a || b || true) ≡ true
    or_true true b = refl
    or_true false true = refl
    or_true false false = refl

    true_false : true ≡ false → ⊥
    true_false e = cc

    go : (v : Bool) →
        (nat_lt m.number done || nat_le (done + 16) m.number || is_some (at w (m.number - done))) ≡ v →
        at (cond v w (slice_set w (m.number - done) (Some (message_body m)))) 0 ≡ Some body
    go true e = here
    go false e =
        at-set_other w (m.number - done) 0 (Some (message_body m)) (λ zero_is. true_false
        (sym (or_true (nat_lt m.number done) (nat_le (done + 16) m.number))
        ∙ ap (λ (x : Bool). nat_lt m.number done || nat_le (done + 16) m.number || x)
        (sym (ap is_some here) ∙ ap (λ (k : ℕ). is_some (at w k)) zero_is) ∙ e)) ∙ here

pub holding_carried : (a b : Part) (done : ℕ) (m : Message) → b ≡ record a { window = window_with a.window done m } →
    NextIsCarriedOut a → NextIsCarriedOut b
holding_carried a b done m same carried =
    subst NextIsCarriedOut (sym same) (carried.0, first_stays a.window done m carried.0 carried.1, carried.2)

-- Where nothing waits, no byte comes after the noted ones.

false_true : false ≡ true → ⊥
false_true e = cc

take_none : (n : ℕ) (xs : List ℕ) → xs ≡ [] → take n xs ≡ []
take_none zero xs e = refl
take_none (suc n) xs e = ap (take (suc n)) e

pub quiet_ends : (h : Header) (name : List ℕ) (log : Log) (offset : ℕ) (notes : Option (List ℕ)) →
    IsNoted h name log offset notes → is_pending log ≡ false → HasNothingPast offset notes
quiet_ends h name log offset notes noted quiet = by_stand noted.stands
  where
    some_none : {X : Type 0} {x : X} → Some x ≡ None → ⊥
    some_none e = cc

    some_same : {X : Type 0} {x y : X} → Some x ≡ Some y → x ≡ y
    some_same e = cc

    none : at log.admitted log.done ≡ None
    none = go (at log.admitted log.done) refl
      where
        go : (o : Option Request) → at log.admitted log.done ≡ o → at log.admitted log.done ≡ None
        go None e = e
        go (Some r) e = absurd (false_true (sym quiet ∙ ap (λ (x : Option Request). is_some x) e))

    by_prefix : log.done ≡ 0 → (o : Option (List ℕ)) → IsPrefixOf (header_bytes name h) o → HasNothingPast offset o
    by_prefix zero_done None p = tt
    by_prefix zero_done (Some bytes) (inl e) = absurd (some_none e)
    by_prefix zero_done (Some bytes) (inr (count, e)) =
        let same : length bytes ≡ length (take count (header_bytes name h)) = ap length (some_same e) in
        let few = take_most count (header_bytes name h) in
        let long = begun_length h name log zero_done in
        let place = noted.offset_is in
        omega (arith, same, few, long, place)

    by_entries : HasEntries h name log notes → HasNothingPast offset notes
    by_entries (count, e) =
        let nothing : take count (next_entry h.existed name log) ≡ [] =
        ap (λ (o : Option Request). take count (entry_if h.existed name log.admitted log.done o)) none ∙ take_none count [] refl in
        let is : notes ≡ Some (journal_of h name log) =
        e ∙ ap (λ (t : List ℕ). Some (journal_of h name log ++ t)) nothing
        ∙ ap Some (append-nil (journal_of h name log)) in
        let place = noted.offset_is in
        subst (HasNothingPast offset) (sym is) (let l : length (journal_of h name log) ≤ offset = omega (arith, place) in l)

    by_stand : ((log.done ≡ 0) × IsPrefixOf (header_bytes name h) notes) ⊎ HasEntries h name log notes →
        HasNothingPast offset notes
    by_stand (inl p) = by_prefix p.0 notes p.1
    by_stand (inr entries) = by_entries entries
