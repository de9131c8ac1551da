-- The requests that were offered are the first of the input, and what it says that all are stored.
use Rattle.std.proofs.Common.{◌≡◌, ℕ, suc, zero, ◌+◌, ◌<◌, ◌≤◌, ◌⊎◌, Bool, true, false, cond, List}
use Rattle.std.proofs.Common.{[], ◌∷◌, ◌++◌, length}
use Rattle.std.proofs.Common.{take, drop, Option, Some, None, refl, sym, ◌∙◌, ap, subst, arith, inl, inr}
use Rattle.std.proofs.Common.{append_assoc, append-nil, length-append}
use Rattle.std.proofs.Math.Seq.{drop-append_seam}
use Rattle.std.specs.Prelude.{count_by, ◌==◌, if◌then◌else◌}
use Rattle.std.proofs.lemmas.Bool.{eqb-true}
use Rattle.std.proofs.lemmas.List.{length-take}
use Rattle.std.proofs.lemmas.List.Sums.{count_by-le-length, sum_by-cons}
use Rattle.bw_model.specs.Bytes.{at, first_free}
use Rattle.bw_model.specs.Take.{Request, Verdict, Stored, is_stored}
use Rattle.bw_model.specs.Replies.{Reply}
use Rattle.bw_model.specs.World.{Sender as Defined, OfferFault, offer_fault, is_some_stored, stored}
use Rattle.bw_stream.specs.declared.sink.Sink.{Ghosts as Writer}
use Rattle.bw_stream.specs.declared.source.Source.{Ghosts as Reader}
use Rattle.bw_upload.specs.RoundsMade.{AreRounds, MakesRounds}
use Rattle.bw_upload.specs.SendState.{Sending, IsSettled, hear_in, new_sending, offer_all, offer_more, offer_next}
use Rattle.bw_console.specs.declared.exit.Exit.TheVariants.{Done, Refused, Device}
use Rattle.bw_upload.specs.SendState.{unoffered, OffersInOrder, EachIsStored, exit_for_sender, has_refused}
use Rattle.bw_upload.proofs.OfferSteps.{taken, refused, all_taken, all_refused}
use Rattle.bw_sender.proofs.HeardSenders.{all_heard, stored_is}
use Rattle.bw_ports.specs.declared.dial.Dial.{Ghosts as DialGhosts}

-- what was offered, and then these, are the requests of the input
abbrev pub Prefix : Sending → List Request → Type 0
Prefix x rest = x.sender.offered ++ rest ≡ x.requests

pub rest_is : (x : Sending) (rest : List Request) → Prefix x rest → unoffered x ≡ rest
rest_is x rest e = ap (drop (length x.sender.offered)) (sym e) ∙ drop-append_seam x.sender.offered rest

next_prefix : (x : Sending) (r : Request) (rs : List Request) → Prefix x (r ∷ rs) → offer_fault x.sender r ≡ None →
    Prefix (offer_next x r) rs
next_prefix x r rs e none =
    ap (λ (s : Defined). s.offered ++ rs) (taken x.sender r none) ∙ append_assoc x.sender.offered (r ∷ []) rs ∙ e

stopped_prefix : (x : Sending) (r : Request) (rest : List Request) (f : OfferFault) → Prefix x rest →
    offer_fault x.sender r ≡ Some f → Prefix (offer_next x r) rest
stopped_prefix x r rest f e some = ap (λ (s : Defined). s.offered ++ rest) (refused x.sender r f some) ∙ e

all_prefix : (x : Sending) (rs : List Request) → Prefix x rs → (rest : List Request) × Prefix (offer_all x rs) rest
unfolding offer_all
all_prefix x [] e = ([], e)
all_prefix x (r ∷ rs) e = go (offer_fault x.sender r) refl (all_prefix (offer_next x r) rs)
  where
    go : (o : Option OfferFault) → offer_fault x.sender r ≡ o →
        (Prefix (offer_next x r) rs → (rest : List Request) × Prefix (offer_all (offer_next x r) rs) rest) →
        (rest : List Request) × Prefix (offer_all x (r ∷ rs)) rest
    go None is rec =
        let more = rec (next_prefix x r rs e is) in
        (more.0, subst (λ (y : Sending). Prefix y more.0) (sym (all_taken x r rs is)) more.1)
    go (Some f) is rec = (
      r ∷ rs,
      subst (λ (y : Sending). Prefix y (r ∷ rs)) (sym (all_refused x r rs f is))
          (stopped_prefix x r (r ∷ rs) f e is),
    )

more_prefix : (x : Sending) (rest : List Request) → Prefix x rest → (rest : List Request) × Prefix (offer_more x) rest
unfolding offer_more
more_prefix x rest e = go x.is_stopped
  where
    go : (b : Bool) → (rest : List Request) × Prefix (cond b x (offer_all x (unoffered x))) rest
    go true = (rest, e)
    go false = all_prefix x (unoffered x) (ap (λ (rs : List Request). x.sender.offered ++ rs) (rest_is x rest e) ∙ e)

hear_prefix : (x : Sending) (heard : List Reply) (rest : List Request) → Prefix x rest → Prefix (hear_in x heard) rest
hear_prefix x heard rest e = ap (λ (rs : List Request). rs ++ rest) (all_heard x.sender heard) ∙ e

module _ {D R W : Type 0} (dial : DialGhosts D R W) (reader : Reader R) (writer : Writer W) where
  went_prefix : (x : Sending) (heard : List (List Reply)) (y : Sending) (d e : D) →
      AreRounds dial reader writer x heard y d e → (rest : List Request) → Prefix x rest →
      (rest : List Request) × Prefix y rest
  went_prefix x [] y d e went rest f = (rest, subst (λ (z : Sending). Prefix z rest) (sym went.0) f)
  went_prefix x (h ∷ hs) y d e went rest f =
      let more = more_prefix x rest f in
      went_prefix (hear_in (offer_more x) h) hs y went.0 e went.3 more.0 (hear_prefix (offer_more x) h more.0 more.1)

  -- after rounds what was offered is the prefix of the requests
  made_prefix : (name : List ℕ) (requests : List Request) (rounds : ℕ) (y : Sending) (d e : D) →
      MakesRounds dial reader writer rounds (new_sending name requests) y d e →
      y.sender.offered ++ unoffered y ≡ y.requests
  made_prefix name requests rounds y d e made = go made.ends
    where
      following : (rest : List Request) × Prefix made.following rest
      following = went_prefix (new_sending name requests) made.heard made.following d e made.went requests refl

      whole : (z : Sending) (rest : List Request) → Prefix z rest → y ≡ z → y.sender.offered ++ unoffered y ≡ y.requests
      whole z rest f is =
          let g : Prefix y rest = subst (λ (z : Sending). Prefix z rest) (sym is) f in
          ap (λ (rs : List Request). y.sender.offered ++ rs) (rest_is y rest g) ∙ g

      go : ((length made.heard ≡ rounds) × (y ≡ made.following))
          ⊎ ((length made.heard < rounds) × (y ≡ offer_more made.following) × IsSettled y) →
          y.sender.offered ++ unoffered y ≡ y.requests
      go (inl all) = whole made.following following.0 following.1 all.1
      go (inr few) =
          let more = more_prefix made.following following.0 following.1 in
          whole (offer_more made.following) more.0 more.1 few.1

  -- and no other one has a verdict
  pub made_in_order : (name : List ℕ) (requests : List Request) (rounds : ℕ) (y : Sending) (d e : D) →
      MakesRounds dial reader writer rounds (new_sending name requests) y d e →
      length y.sender.verdicts ≤ length y.sender.offered → OffersInOrder y
  made_in_order name requests rounds y d e made within =
      record { prefix = made_prefix name requests rounds y d e made; within = within }

-- As many stored as there are requests.

first_free-le : (vs : List (Option Verdict)) → first_free vs ≤ length vs
first_free-le [] = omega arith
first_free-le (None ∷ vs) = omega arith
first_free-le (Some v ∷ vs) = let h : first_free vs ≤ length vs = first_free-le vs in omega arith

-- how many of the first k are stored
abbrev count : ℕ → List (Option Verdict) → ℕ
count k vs = count_by is_some_stored (take k vs)

abbrev one_if : Bool → ℕ
one_if b = if b then 1 else 0

count_cons : (v : Verdict) (k : ℕ) (vs : List (Option Verdict)) →
    count (suc k) (Some v ∷ vs) ≡ one_if (is_stored v) + count k vs
count_cons v k vs = sum_by-cons (λ o. one_if (is_some_stored o)) (Some v) (take k vs)

count-le : (k : ℕ) (vs : List (Option Verdict)) → count k vs ≤ k
count-le k vs =
    let a : count k vs ≤ length (take k vs) = count_by-le-length is_some_stored (take k vs) in
    let b = length-take k vs in
    omega (arith, a, b)

-- where as many of the settled numbers are stored as there are settled, each of them is
each_stored : (vs : List (Option Verdict)) (m : ℕ) → count (first_free vs) vs ≡ m → first_free vs ≤ m → (n : ℕ) →
    n < m → at vs n ≡ Some Stored
each_stored [] m e le n lt = let c : count 0 [] ≤ 0 = count-le 0 [] in absurd (omega (arith, c, e, lt))
each_stored (None ∷ vs) m e le n lt =
    let c : count 0 (None ∷ vs) ≤ 0 = count-le 0 (None ∷ vs) in absurd (omega (arith, c, e, lt))
each_stored (Some v ∷ vs) m e le n lt = go (is_stored v) refl n lt (each_stored vs)
  where
    k : ℕ
    k = first_free vs

    c : count k vs ≤ k
    c = count-le k vs

    go : (b : Bool) → is_stored v ≡ b → (n : ℕ) → n < m →
        ((m : ℕ) → count k vs ≡ m → k ≤ m → (n : ℕ) → n < m → at vs n ≡ Some Stored) →
        at (Some v ∷ vs) n ≡ Some Stored
    go false is n lt rec =
        let split : count (suc k) (Some v ∷ vs) ≡ one_if false + count k vs =
        count_cons v k vs ∙ ap (λ (b : Bool). one_if b + count k vs) is in
        let less : suc k ≤ m = le in
        absurd (omega (arith, split, c, e, less))
    go true is zero lt rec = ap Some (stored_is v is)
    go true is (suc n) lt rec =
        let split : count (suc k) (Some v ∷ vs) ≡ one_if true + count k vs =
        count_cons v k vs ∙ ap (λ (b : Bool). one_if b + count k vs) is in
        let less : suc k ≤ m = le in
        rec (count k vs) refl (omega (arith, split, e, less)) n (omega (arith, split, e, lt))

-- Done says that each request is stored
exit_done : (x : Sending) → exit_for_sender x ≡ Done → stored x.sender ≡ length x.requests
exit_done x e = go (has_refused x) e
  where
    last : (b : Bool) → (stored x.sender == length x.requests) ≡ b → cond b Done Device ≡ Done →
        stored x.sender ≡ length x.requests
    last true is e = eqb-true (stored x.sender) (length x.requests) is
    last false is e = absurd (cc)

    go : (b : Bool) → cond b Refused (cond (stored x.sender == length x.requests) Done Device) ≡ Done →
        stored x.sender ≡ length x.requests
    go true e = absurd (cc)
    go false e = last (stored x.sender == length x.requests) refl e

pub done_stored : (x : Sending) → OffersInOrder x → exit_for_sender x ≡ Done → EachIsStored x
done_stored x o e =
    let count_is : count (first_free x.sender.verdicts) x.sender.verdicts ≡ length x.requests = exit_done x e in
    let c : count (first_free x.sender.verdicts) x.sender.verdicts ≤ first_free x.sender.verdicts =
    count-le (first_free x.sender.verdicts) x.sender.verdicts in
    let f : first_free x.sender.verdicts ≤ length x.sender.verdicts = first_free-le x.sender.verdicts in
    let w = o.within in
    let parts : length x.sender.offered + length (unoffered x) ≡ length x.requests =
    sym (length-append x.sender.offered (unoffered x)) ∙ ap length o.prefix in
    let none : length (unoffered x) ≡ 0 = omega (arith, count_is, c, f, w, parts) in
    record {
      all = sym (append-nil x.sender.offered)
          ∙ ap (λ (rs : List Request). x.sender.offered ++ rs) (sym (empty (unoffered x) none)) ∙ o.prefix;
      stored = each_stored x.sender.verdicts (length x.requests) count_is (omega (arith, f, w, parts));
    }
  where
    empty : (rs : List Request) → length rs ≡ 0 → rs ≡ []
    empty [] e = refl
    empty (r ∷ rs) e = absurd (omega (arith, e))
