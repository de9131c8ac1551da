-- Offers and replies keep what holds of a run.
use Rattle.std.proofs.Common.{◌≡◌, ◌≢◌, ℕ, suc, ◌+◌, ◌<◌, ◌≤◌, Bool, true, false, cond, ◌&&◌, List, [], ◌∷◌, ◌++◌}
use Rattle.std.proofs.Common.{length, take, Option, Some, None, refl, sym, ◌∙◌, ap, subst, arith, ◌⊎◌, inl, inr}
use Rattle.std.proofs.Common.{length-append}
use Rattle.std.specs.Prelude.{slice_get, nat_le, nat_lt, is_none}
use Rattle.std.specs.Str.{bytes_eq}
use Rattle.std.proofs.lemmas.Bool.{leb-false, and_parts, false≢true}
use Rattle.std.proofs.lemmas.Bool.Decides.{eqb_tells}
use Rattle.std.proofs.Math.Dec.{eqb}
use Rattle.bw_model.specs.Bytes.{at, put, first_free}
use Rattle.bw_model.specs.Take.{Request, Verdict}
use Rattle.bw_model.specs.Replies.{Reply, Judged, Noticed, Refused}
use Rattle.bw_model.specs.Book.{Log, verdict_at}
use Rattle.bw_model.specs.Turn.{window}
use Rattle.bw_model.specs.World.{Sender, settled, hear, is_counted, offer_fault}
use Rattle.bw_model.specs.World.{OfferFault, NumbersSpent, BeforeOpen, AfterClose, WindowFull}
use Rattle.bw_model.proofs.BookLemmas.{same_name}
use Rattle.bw_model.proofs.MapLemmas.{at-put_same, at-put_other, first_free-put}
use Rattle.bw_model.proofs.Elements.{some_inj}
use Rattle.bw_model.proofs.SenderSteps.{settled_done}
use Rattle.bw_model.proofs.TrueReplies.{Grows, IsTrueReply}
use Rattle.bw_delivery.specs.Reruns.{offered_to}
use Rattle.bw_delivery.proofs.Elements.{take-next}

-- what a run has, beside the log of its name
pub record IsRunOn (taken : Bool) (name : List ℕ) (requests : List Request) (log : Log) (s : Sender) : Type 0 where
  pub own : s.name ≡ name
  pub first : s.offered ≡ take (length s.offered) requests
  pub known : (n : ℕ) (v : Verdict) → at s.verdicts n ≡ Some v →
      (n < log.done) × (v ≡ verdict_at taken log.admitted n)
  pub near : length s.offered ≤ settled s + window

-- it stays so while the log grows
pub run_grown : (taken : Bool) (name : List ℕ) (requests : List Request) (old new : Log) → Grows taken old new →
    (s : Sender) → IsRunOn taken name requests old s → IsRunOn taken name requests new s
run_grown taken name requests old new g s h = record {
  own = h.own;
  first = h.first;
  known = λ n v e. let x = h.known n v e in let below : n < old.done = x.0 in let more = g.done in
      ((let b : n < new.done = omega (arith, below, more) in b), x.1 ∙ sym (g.verdicts n below));
  near = h.near;
}

-- what was offered to it is near the first number that isn't done
pub offered_near : (taken : Bool) (name : List ℕ) (requests : List Request) (log : Log) (s : Sender) →
    IsRunOn taken name requests log s → length s.offered ≤ log.done + window
offered_near taken name requests log s h =
    let following : settled s ≤ log.done = settled_done s.verdicts log.done (λ n v e. (h.known n v e).0) in
    let near = h.near in
    omega (arith, following, near)

-- a run that begins
pub run_begins : (taken : Bool) (name : List ℕ) (requests : List Request) (log : Log) →
    IsRunOn taken name requests log (record { name = name; offered = []; verdicts = [] })
run_begins taken name requests log = record {
  own = refl;
  first = none requests;
  known = λ n v e. absurd (none_some e);
  near = omega arith;
}
  where
    none : (rs : List Request) → [] ≡ take 0 rs
    none [] = refl
    none (r ∷ rs) = refl

    none_some : {X : Type 0} {x : X} → None ≡ Some x → ⊥
    none_some e = cc

-- an offer of the next request
pub run_offered : (taken : Bool) (name : List ℕ) (requests : List Request) (log : Log) (s : Sender) →
    IsRunOn taken name requests log s → (next : Option Request) → slice_get requests (length s.offered) ≡ next →
    IsRunOn taken name requests log (offered_to s next)
run_offered taken name requests log s h None e = h
run_offered taken name requests log s h (Some r) e = go (offer_fault s r) refl
  where
    more : nat_le (settled s + window) (length s.offered) ≡ false →
        IsRunOn taken name requests log (record s { offered = s.offered ++ r ∷ [] })
    more room =
        let room' : length s.offered < settled s + window = leb-false _ _ room in
        let len : length (s.offered ++ r ∷ []) ≡ suc (length s.offered) =
        omega (arith, length-append s.offered (r ∷ [])) in
        record {
          own = h.own;
          first = ap (λ (xs : List Request). xs ++ r ∷ []) h.first ∙ take-next requests (length s.offered) r e
              ∙ ap (λ (n : ℕ). take n requests) (sym len);
          known = h.known;
          near = omega (arith, len, room');
        }

    room_of : (a b c d : Bool) →
        cond a (Some NumbersSpent) (cond b (Some BeforeOpen) (cond c (Some AfterClose) (cond d (Some WindowFull) None)))
        ≡ None → d ≡ false
    room_of true b c d f = cc
    room_of false true c d f = cc
    room_of false false true d f = cc
    room_of false false false true f = cc
    room_of false false false false f = refl

    go : (x : Option OfferFault) → offer_fault s r ≡ x →
        IsRunOn taken name requests log
        (cond (is_none (offer_fault s r)) (record s { offered = s.offered ++ r ∷ [] }) s)
    go None f = subst (λ (v : Option OfferFault). IsRunOn taken name requests log
        (cond (is_none v) (record s { offered = s.offered ++ r ∷ [] }) s)) (sym f)
        (more (room_of _ _ _ _ f))
    go (Some x) f = subst (λ (v : Option OfferFault). IsRunOn taken name requests log
        (cond (is_none v) (record s { offered = s.offered ++ r ∷ [] }) s)) (sym f) h

-- a verdict of the log is heard
pub run_heard : (taken : Bool) (name : List ℕ) (requests : List Request) (log : Log) (s : Sender) (r : Reply) →
    IsRunOn taken name requests log s → IsTrueReply taken name log r → IsRunOn taken name requests log (hear s r)
run_heard taken name requests log s (Noticed x n code next) h t = h
run_heard taken name requests log s (Refused reason place) h t = h
run_heard taken name requests log s (Judged x n v) h t = go (is_counted s x n) refl
  where
    tests : is_counted s x n ≡ true → (bytes_eq x s.name && nat_lt n (length s.offered) ≡ true)
        × (is_none (at s.verdicts n) ≡ true)
    tests e = and_parts (bytes_eq x s.name && nat_lt n (length s.offered)) (is_none (at s.verdicts n)) e

    none_of : (o : Option Verdict) → is_none o ≡ true → o ≡ None
    none_of None e = refl
    none_of (Some v) e = absurd (false≢true e)

    go : (c : Bool) → is_counted s x n ≡ c →
        IsRunOn taken name requests log (cond c (record s { verdicts = put s.verdicts n v }) s)
    go false e = h
    go true e =
        let own : x ≡ s.name = same_name x s.name
        (and_parts (bytes_eq x s.name) (nat_lt n (length s.offered)) (tests e).0).0 in
        let says = t.judged n v (ap (λ (z : List ℕ). Judged z n v) (own ∙ h.own)) in
        let up : first_free s.verdicts ≤ first_free (put s.verdicts n v) =
        first_free-put s.verdicts n v (none_of (at s.verdicts n) (tests e).1) in
        let near = h.near in
        record {
          own = h.own;
          first = h.first;
          known = λ j u f. by_place j u f (eqb_tells j n) says;
          near = omega (arith, up, near);
        }
      where
        by_place : (j : ℕ) (u : Verdict) → at (put s.verdicts n v) j ≡ Some u →
            ((eqb j n ≡ true) × (j ≡ n)) ⊎ ((eqb j n ≡ false) × (j ≢ n)) →
            (n < log.done) × (v ≡ verdict_at taken log.admitted n) →
            (j < log.done) × (u ≡ verdict_at taken log.admitted j)
        by_place j u f (inl p) says =
            let same : u ≡ v = some_inj
            (sym f ∙ ap (at (put s.verdicts n v)) p.1 ∙ at-put_same s.verdicts n v) in
            subst (λ (z : ℕ). (z < log.done) × (u ≡ verdict_at taken log.admitted z)) (sym p.1)
            (says.0, same ∙ says.1)
        by_place j u f (inr p) says = h.known j u (sym (at-put_other s.verdicts n j v p.1) ∙ f)
