-- What rounds of `send` write and hear.
use mathlib.Core.Logic.{inl, inr}
use Rattle.std.proofs.Common.{◌≡◌, ◌≢◌, ℕ, suc, zero, ◌<◌, ◌≤◌, ◌⊎◌, Bool, true, false, cond, ◌&&◌, List, [], ◌∷◌, ◌++◌}
use Rattle.std.proofs.Common.{length, append-nil, drop, Option, Some, None, Result, refl, sym, ◌∙◌, ap}
use Rattle.std.proofs.Common.{subst, arith, append_assoc, length-append}
use Rattle.std.specs.Prelude.{nat_lt, is_none}
use Rattle.std.specs.List.{Contains}
use Rattle.std.specs.Str.{bytes_eq}
use Rattle.std.proofs.lemmas.Bool.{and_parts, cases_lt, ltb-false}
use Rattle.std.proofs.lemmas.Bool.Decides.{eqb_tells}
use Rattle.std.proofs.Math.Dec.{eqb}
use Rattle.std.proofs.lemmas.List.Elements.{Contains-append_right, Contains-append_cases}
use Rattle.bw_model.specs.Bytes.{at, put}
use Rattle.bw_model.specs.Take.{Request, Verdict}
use Rattle.bw_model.specs.Wire.{Second, last_number}
use Rattle.bw_model.specs.Replies.{Reply, Judged, Noticed, Refused}
use Rattle.bw_model.specs.World.{Sender, hear, is_counted, offer, offer_fault}
use Rattle.bw_model.specs.World.{OfferFault, NumbersSpent}
use Rattle.bw_model.proofs.BookLemmas.{same_name}
use Rattle.bw_model.proofs.MapLemmas.{at-put_same, at-put_other}
use Rattle.bw_stream.specs.declared.sink.Sink.{Ghosts as Writer}
use Rattle.bw_stream.specs.declared.source.Source.{Ghosts as Reader}
use Rattle.bw_sender.specs.Batches.{batch_bytes}
use Rattle.bw_sender.specs.Hears.{Hears, hear_all}
use Rattle.bw_sender.specs.Sent.{Exchanges}
use Rattle.bw_sender.specs.declared.send_fault.SendFault.{SendFault}
use Rattle.bw_ports.specs.declared.dial.Dial.{Ghosts as DialGhosts}
use Rattle.bw_ports.specs.declared.dial.Duplex.{Duplex}
use Rattle.bw_upload.specs.RoundsMade.{IsExchange, IsRound, AreRounds, heard_over}
use Rattle.bw_upload.specs.SendState.{Sending, IsSettled, hear_in, new_sending, offer_all, offer_more, offer_next, unoffered}
use Rattle.bw_sender.proofs.HeardSenders.{all_heard}
use Rattle.std.proofs.Math.Seq.{drop-append_seam}
use Rattle.bw_upload.proofs.OfferSteps.{taken, refused, all_taken, all_refused}
use Rattle.bw_delivery.specs.Deliveries.{HeardOverLinks}
use Rattle.bw_delivery.specs.Statement.{LinkBytes, IsPartOf, WroteRequests, WasTold}
use Rattle.bw_end_to_end.specs.UsedLinks.{UsedLink, AreSenderEnds, PendingHaveNumbers}
use Rattle.bw_end_to_end.specs.SentInRounds.{link_in_round, links_in_rounds, RoundsSendRequests}
use Rattle.bw_end_to_end.proofs.SaidRequests.{IsOffered, AreSpelled, all_numbers, batch_says, only_now}

-- Offers.

-- an accepted offer has a number
has_number : (s : Sender) (r : Request) → offer_fault s r ≡ None → length s.offered < all_numbers
has_number s r e =
    let h = ltb-false (last_number Second) (length s.offered) (not_spent (nat_lt (last_number Second) (length s.offered)) _ e) in
    omega (arith, h)
  where
    not_spent : (a : Bool) (rest : Option OfferFault) → cond a (Some NumbersSpent) rest ≡ None → a ≡ false
    not_spent false rest e = refl
    not_spent true rest e = absurd (some_none e)
      where
        some_none : {X : Type 0} {x : X} → Some x ≡ None → ⊥
        some_none e = cc

-- those without a verdict have numbers after it too
pub offered_numbers : (s : Sender) (r : Request) → offer_fault s r ≡ None → PendingHaveNumbers s →
    PendingHaveNumbers (record s { offered = s.offered ++ r ∷ [] })
offered_numbers s r e h n below none = go (cases_lt n (length s.offered))
  where
    go : (n < length s.offered) ⊎ (length s.offered ≤ n) → n ≤ last_number Second
    go (inl b) = h n b none
    go (inr b) =
        let most = has_number s r e in omega (arith, b, below, most, length-append s.offered (r ∷ []))

pub offered_one : (name : List ℕ) (requests : List Request) (s : Sender) (r : Request) (rest : List Request) →
    IsOffered name requests s (r ∷ rest) → offer_fault s r ≡ None → IsOffered name requests (offer s r) rest
offered_one name requests s r rest h e =
    subst (λ (t : Sender). IsOffered name requests t rest) (sym (taken s r e)) (record {
      name_is = h.name_is;
      whole = append_assoc s.offered (r ∷ []) rest ∙ h.whole;
      numbered = offered_numbers s r e h.numbered;
    })

-- How far a sending is: these are its requests, and these its verdicts.
pub record IsGoing (name : List ℕ) (requests : List Request) (vs : List (Option Verdict)) (x : Sending) : Type 0 where
  pub requests_are : x.requests ≡ requests
  pub rest : List Request
  pub offered : IsOffered name requests x.sender rest
  pub verdicts_are : x.sender.verdicts ≡ vs

all_going : (name : List ℕ) (requests : List Request) (vs : List (Option Verdict)) (x : Sending) (rs : List Request) →
    x.requests ≡ requests → IsOffered name requests x.sender rs → x.sender.verdicts ≡ vs →
    IsGoing name requests vs (offer_all x rs)
unfolding offer_all
all_going name requests vs x [] e h f = record { requests_are = e; rest = []; offered = h; verdicts_are = f }
all_going name requests vs x (r ∷ rs) e h f = go (offer_fault x.sender r) refl (all_going name requests vs (offer_next x r) rs e)
  where
    go : (o : Option OfferFault) → offer_fault x.sender r ≡ o →
        (IsOffered name requests (offer x.sender r) rs → (offer x.sender r).verdicts ≡ vs →
        IsGoing name requests vs (offer_all (offer_next x r) rs)) → IsGoing name requests vs (offer_all x (r ∷ rs))
    go None is rec = subst (IsGoing name requests vs) (sym (all_taken x r rs is))
        (rec (offered_one name requests x.sender r rs h is)
        (ap (λ (t : Sender). t.verdicts) (taken x.sender r is) ∙ f))
    go (Some fault) is rec = subst (IsGoing name requests vs) (sym (all_refused x r rs fault is)) (record {
      requests_are = e;
      rest = r ∷ rs;
      offered = subst (λ (t : Sender). IsOffered name requests t (r ∷ rs)) (sym (refused x.sender r fault is)) h;
      verdicts_are = ap (λ (t : Sender). t.verdicts) (refused x.sender r fault is) ∙ f;
    })

pub more_going : (name : List ℕ) (requests : List Request) (vs : List (Option Verdict)) (x : Sending) →
    IsGoing name requests vs x → IsGoing name requests vs (offer_more x)
unfolding offer_more
more_going name requests vs x h = go x.is_stopped
  where
    left : unoffered x ≡ h.rest
    left = ap (drop (length x.sender.offered)) (h.requests_are ∙ sym h.offered.whole)
        ∙ drop-append_seam x.sender.offered h.rest

    go : (b : Bool) → IsGoing name requests vs (cond b x (offer_all x (unoffered x)))
    go true = h
    go false = all_going name requests vs x (unoffered x) h.requests_are
        (subst (IsOffered name requests x.sender) (sym left) h.offered) h.verdicts_are

all_verdicts : (x : Sending) (rs : List Request) → (offer_all x rs).sender.verdicts ≡ x.sender.verdicts
unfolding offer_all
all_verdicts x [] = refl
all_verdicts x (r ∷ rs) = go (offer_fault x.sender r) refl (all_verdicts (offer_next x r) rs)
  where
    go : (o : Option OfferFault) → offer_fault x.sender r ≡ o →
        (offer_all (offer_next x r) rs).sender.verdicts ≡ (offer x.sender r).verdicts →
        (offer_all x (r ∷ rs)).sender.verdicts ≡ x.sender.verdicts
    go None is rec = ap (λ (y : Sending). y.sender.verdicts) (all_taken x r rs is) ∙ rec
        ∙ ap (λ (t : Sender). t.verdicts) (taken x.sender r is)
    go (Some fault) is rec = ap (λ (y : Sending). y.sender.verdicts) (all_refused x r rs fault is)
        ∙ ap (λ (t : Sender). t.verdicts) (refused x.sender r fault is)

more_verdicts : (x : Sending) → (offer_more x).sender.verdicts ≡ x.sender.verdicts
unfolding offer_more
more_verdicts x = go x.is_stopped
  where
    go : (b : Bool) → (cond b x (offer_all x (unoffered x))).sender.verdicts ≡ x.sender.verdicts
    go true = refl
    go false = all_verdicts x (unoffered x)

-- Replies.

hear_name : (s : Sender) (r : Reply) → (hear s r).name ≡ s.name
hear_name s (Judged x k w) = elim (is_counted s x k)
    as (λ b. (cond b (record s { verdicts = put s.verdicts k w }) s).name ≡ s.name) [ true ↦ refl | false ↦ refl ]
hear_name s (Noticed x k code next) = refl
hear_name s (Refused reason place) = refl

pub all_named : (s : Sender) (rs : List Reply) → (hear_all s rs).name ≡ s.name
all_named s [] = refl
all_named s (r ∷ rs) = all_named (hear s r) rs ∙ hear_name s r

hear_one : (s : Sender) (r : Reply) (n : ℕ) (v : Verdict) → at (hear s r).verdicts n ≡ Some v →
    (at s.verdicts n ≡ Some v) ⊎ (r ≡ Judged s.name n v)
hear_one s (Noticed x k code next) n v e = inl e
hear_one s (Refused reason place) n v e = inl e
hear_one s (Judged x k w) n v e = go (is_counted s x k) refl e
  where
    some_inj : {X : Type 0} {x y : X} → Some x ≡ Some y → x ≡ y
    some_inj e = cc

    by_place : is_counted s x k ≡ true → at (put s.verdicts k w) n ≡ Some v →
        ((eqb n k ≡ true) × (n ≡ k)) ⊎ ((eqb n k ≡ false) × (n ≢ k)) →
        (at s.verdicts n ≡ Some v) ⊎ (Judged x k w ≡ Judged s.name n v)
    by_place c e (inl p) =
        let own : x ≡ s.name = same_name x s.name (and_parts (bytes_eq x s.name) (nat_lt k (length s.offered))
        (and_parts (bytes_eq x s.name && nat_lt k (length s.offered)) (is_none (at s.verdicts k)) c).0).0 in
        let same : w ≡ v = some_inj (sym (at-put_same s.verdicts k w) ∙ ap (at (put s.verdicts k w)) (sym p.1) ∙ e) in
        inr (ap (λ (z : List ℕ). Judged z k w) own ∙ ap (λ (z : ℕ). Judged s.name z w) (sym p.1)
        ∙ ap (Judged s.name n) same)
    by_place c e (inr p) = inl (sym (at-put_other s.verdicts k n w p.1) ∙ e)

    go : (b : Bool) → is_counted s x k ≡ b → at (cond b (record s { verdicts = put s.verdicts k w }) s).verdicts n ≡ Some v →
        (at s.verdicts n ≡ Some v) ⊎ (Judged x k w ≡ Judged s.name n v)
    go false c e = inl e
    go true c e = by_place c e (eqb_tells n k)

-- a verdict was there before, or is among the replies
pub heard_all : (s : Sender) (rs : List Reply) (n : ℕ) (v : Verdict) → at (hear_all s rs).verdicts n ≡ Some v →
    (at s.verdicts n ≡ Some v) ⊎ Contains rs (Judged s.name n v)
heard_all s [] n v e = inl e
heard_all s (r ∷ rs) n v e = go (heard_all (hear s r) rs n v e)
  where
    later : Contains rs (Judged s.name n v) → Contains (r ∷ rs) (Judged s.name n v)
    later h = Contains-append_right (r ∷ []) rs (Judged s.name n v) h

    first : (at s.verdicts n ≡ Some v) ⊎ (r ≡ Judged s.name n v) →
        (at s.verdicts n ≡ Some v) ⊎ Contains (r ∷ rs) (Judged s.name n v)
    first (inl h) = inl h
    first (inr h) = inr (0, omega arith, h)

    go : (at (hear s r).verdicts n ≡ Some v) ⊎ Contains rs (Judged (hear s r).name n v) →
        (at s.verdicts n ≡ Some v) ⊎ Contains (r ∷ rs) (Judged s.name n v)
    go (inl h) = first (hear_one s r n v h)
    go (inr h) = inr (later (subst (λ (x : List ℕ). Contains rs (Judged x n v)) (hear_name s r) h))

-- a verdict stays
hear_none : (s : Sender) (r : Reply) (n : ℕ) → at (hear s r).verdicts n ≡ None → at s.verdicts n ≡ None
hear_none s (Noticed x k code next) n e = e
hear_none s (Refused reason place) n e = e
hear_none s (Judged x k w) n e = go (is_counted s x k) e
  where
    some_none : {X : Type 0} {x : X} → Some x ≡ None → ⊥
    some_none e = cc

    by_place : at (put s.verdicts k w) n ≡ None → ((eqb n k ≡ true) × (n ≡ k)) ⊎ ((eqb n k ≡ false) × (n ≢ k)) →
        at s.verdicts n ≡ None
    by_place e (inl p) =
        absurd (some_none (sym (at-put_same s.verdicts k w) ∙ ap (at (put s.verdicts k w)) (sym p.1) ∙ e))
    by_place e (inr p) = sym (at-put_other s.verdicts k n w p.1) ∙ e

    go : (b : Bool) → at (cond b (record s { verdicts = put s.verdicts k w }) s).verdicts n ≡ None →
        at s.verdicts n ≡ None
    go false e = e
    go true e = by_place e (eqb_tells n k)

all_none : (s : Sender) (rs : List Reply) (n : ℕ) → at (hear_all s rs).verdicts n ≡ None → at s.verdicts n ≡ None
all_none s [] n e = e
all_none s (r ∷ rs) n e = hear_none s r n (all_none (hear s r) rs n e)

pub heard_numbers : (s : Sender) (rs : List Reply) → PendingHaveNumbers s → PendingHaveNumbers (hear_all s rs)
heard_numbers s rs h n below none =
    let same = ap (λ (z : List Request). length z) (all_heard s rs) in
    h n (omega (arith, below, same)) (all_none s rs n none)

pub hear_going : (name : List ℕ) (requests : List Request) (vs : List (Option Verdict)) (x : Sending) (heard : List Reply) →
    IsGoing name requests vs x → IsGoing name requests (hear_all x.sender heard).verdicts (hear_in x heard)
hear_going name requests vs x heard h = record {
  requests_are = h.requests_are;
  rest = h.rest;
  offered = record {
    name_is = all_named x.sender heard ∙ h.offered.name_is;
    whole = ap (λ (rs : List Request). rs ++ h.rest) (all_heard x.sender heard) ∙ h.offered.whole;
    numbered = heard_numbers x.sender heard h.offered.numbered;
  };
  verdicts_are = refl;
}

some_inj : {X : Type 0} {x y : X} → Some x ≡ Some y → x ≡ y
some_inj e = cc

-- Exchanges.

module _ {R W : Type 0} (reader : Reader R) (writer : Writer W) where
  hears_from : (result : Result (Unit {0}) SendFault) (x y : _) (left left' : Option (List ℕ)) (gives : List ℕ)
      (name : List ℕ) (n : ℕ) (v : Verdict) → (h : Hears result x y left left') → left ≡ Some gives →
      Contains h.heard (Judged name n v) → WasTold name n v gives
  hears_from result x y left left' gives name n v h e has =
      let given = h.given gives e in
      let prefix = h.prefix in
      record {
        replies = h.heard;
        spelled = prefix.1.each;
        part = (
          prefix.0 ++ given.0,
          sym (sym given.2 ∙ ap (λ (z : List ℕ). z ++ given.0) prefix.1.whole ∙ append_assoc _ prefix.0 given.0),
        );
        among = has;
      }

-- Rounds.

-- what rounds write and hear, over these links
pub record RoundsSend (name : List ℕ) (requests : List Request) (before after : List (Option Verdict))
    (links : List (ℕ × LinkBytes)) : Type 0 where
  pub says : (n : ℕ) (l : LinkBytes) → Contains links (n, l) → WroteRequests name requests l.said
  pub heard : (n : ℕ) (v : Verdict) → at after n ≡ Some v → (at before n ≡ Some v) ⊎ HeardOverLinks links name n v

module _ {D R W : Type 0} (dial : DialGhosts D R W) (reader : Reader R) (writer : Writer W) where
  exchange_says : (name : List ℕ) (requests : List Request) (s : Sender) (rest : List Request) (heard : List Reply)
      (link : Duplex R W) → (x : IsExchange dial reader writer s heard link) → IsOffered name requests s rest →
      AreSpelled name requests → (bytes : List ℕ) → writer.written link.writer ≡ Some [] →
      writer.written x.w' ≡ Some bytes → WroteRequests name requests bytes
  exchange_says name requests s rest heard link x h spelled bytes unused said =
      batch_says name requests s rest h spelled bytes (go x.exchanges)
    where
      go : Exchanges reader writer x.result x.before x.after link.reader x.r' link.writer x.w' →
          IsPartOf bytes (batch_bytes s)
      go (inl whole) =
          let same : bytes ≡ batch_bytes s = some_inj (sym said ∙ (whole.sent s x.is_sender).taken [] unused) in
          ([], append-nil bytes ∙ same)
      go (inr (inl broke)) =
          let part = broke.cut s x.is_sender [] unused in
          let same : bytes ≡ part.part = some_inj (sym said ∙ part.stands) in
          (part.rest, ap (λ (z : List ℕ). z ++ part.rest) same ∙ part.whole)
      go (inr (inr lacks)) = absurd (x.goes_on lacks.ends)

  exchange_hears : (s : Sender) (heard : List Reply) (link : Duplex R W) (x : IsExchange dial reader writer s heard link)
      (gives : List ℕ) → reader.left link.reader ≡ Some gives → (name : List ℕ) (n : ℕ) (v : Verdict) →
      Contains heard (Judged name n v) → WasTold name n v gives
  exchange_hears s heard link x gives e name n v has =
      go x.exchanges (subst (λ (rs : List Reply). Contains rs (Judged name n v)) x.heard_is has)
    where
      go : (y : Exchanges reader writer x.result x.before x.after link.reader x.r' link.writer x.w') →
          Contains (heard_over y) (Judged name n v) → WasTold name n v gives
      go (inl whole) k =
          hears_from reader writer x.result x.before x.after _ _ gives name n v whole.over.hears e k
      go (inr (inl broke)) k =
          hears_from reader writer broke.hearing x.before x.after _ _ gives name n v broke.over.hears e k
      go (inr (inr lacks)) (k, below, f) = absurd (omega arith)

  -- one round, and then others
  round_send : (name : List ℕ) (requests : List Request) (s : Sender) (rest : List Request) (heard : List Reply)
      (d d' : D) (round : IsRound dial reader writer s heard d d') (us : List (UsedLink R W))
      (after : List (Option Verdict)) (links : List (ℕ × LinkBytes)) → IsOffered name requests s rest →
      AreSpelled name requests →
      AreSenderEnds reader writer (link_in_round dial reader writer s heard d d' round ++ us) links →
      ((more : List (ℕ × LinkBytes)) → AreSenderEnds reader writer us more →
      RoundsSend name requests (hear_all s heard).verdicts after more) →
      RoundsSend name requests s.verdicts after links
  round_send name requests s rest heard d d' (inl none) us after links h spelled ends rec =
      let more = rec links ends in
      record {
        says = more.says;
        heard = λ n v e. by_later n v (more.heard n v e);
      }
    where
      unheard : (n : ℕ) (v : Verdict) → (at s.verdicts n ≡ Some v) ⊎ Contains heard (Judged s.name n v) →
          at s.verdicts n ≡ Some v
      unheard n v (inl k) = k
      unheard n v (inr k) = absurd (nothing (subst (λ (rs : List Reply). Contains rs (Judged s.name n v)) none.none k))
        where
          nothing : Contains [] (Judged s.name n v) → ⊥
          nothing (k, below, f) = omega arith

      by_later : (n : ℕ) (v : Verdict) → (at (hear_all s heard).verdicts n ≡ Some v) ⊎ HeardOverLinks links name n v →
          (at s.verdicts n ≡ Some v) ⊎ HeardOverLinks links name n v
      by_later n v (inl k) = inl (unheard n v (heard_all s heard n v k))
      by_later n v (inr k) = inr k
  round_send name requests s rest heard d d' (inr made) us after [] h spelled ends rec = absurd ends
  round_send name requests s rest heard d d' (inr made) us after (l ∷ ls) h spelled ends rec =
      let more = rec ls ends.1 in
      let end = ends.0 in
      record {
        says = λ n m has. by_place more.says n m (Contains-append_cases (l ∷ []) ls (n, m) has);
        heard = λ n v e. by_later n v (more.heard n v e);
      }
    where
      said : WroteRequests name requests l.1.said
      said = exchange_says name requests s rest heard made.link made.exchange h spelled l.1.said ends.0.unused ends.0.said

      by_place : ((n : ℕ) (m : LinkBytes) → Contains ls (n, m) → WroteRequests name requests m.said) →
          (n : ℕ) (m : LinkBytes) → Contains (l ∷ []) (n, m) ⊎ Contains ls (n, m) → WroteRequests name requests m.said
      by_place rest_says n m (inl (zero, below, f)) =
          subst (λ (z : ℕ × LinkBytes). WroteRequests name requests z.1.said) f said
      by_place rest_says n m (inl (suc k, below, f)) = absurd (omega arith)
      by_place rest_says n m (inr k) = rest_says n m k

      here : (n : ℕ) (v : Verdict) → Contains heard (Judged s.name n v) → HeardOverLinks (l ∷ ls) name n v
      here n v k = (
        l.0,
        l.1,
        (0, omega arith, refl),
        exchange_hears s heard made.link made.exchange l.1.heard ends.0.heard name n v
            (subst (λ (x : List ℕ). Contains heard (Judged x n v)) h.name_is k),
      )

      first : (n : ℕ) (v : Verdict) → (at s.verdicts n ≡ Some v) ⊎ Contains heard (Judged s.name n v) →
          (at s.verdicts n ≡ Some v) ⊎ HeardOverLinks (l ∷ ls) name n v
      first n v (inl k) = inl k
      first n v (inr k) = inr (here n v k)

      by_later : (n : ℕ) (v : Verdict) → (at (hear_all s heard).verdicts n ≡ Some v) ⊎ HeardOverLinks ls name n v →
          (at s.verdicts n ≡ Some v) ⊎ HeardOverLinks (l ∷ ls) name n v
      by_later n v (inl k) = first n v (heard_all s heard n v k)
      by_later n v (inr (k, m, has, hears)) = inr (k, m, Contains-append_right (l ∷ []) ls (k, m) has, hears)

  rounds_from : (name : List ℕ) (requests : List Request) (x : Sending) (heard : List (List Reply)) (y : Sending)
      (d d' : D) (went : AreRounds dial reader writer x heard y d d') (links : List (ℕ × LinkBytes)) →
      IsGoing name requests x.sender.verdicts x → AreSpelled name requests →
      AreSenderEnds reader writer (links_in_rounds dial reader writer x heard y d d' went) links →
      RoundsSend name requests x.sender.verdicts y.sender.verdicts links
  rounds_from name requests x [] y d d' went [] h spelled ends = record {
    says = λ n l (k, below, f). absurd (omega arith);
    heard = λ n v e. inl (ap (λ (z : Sending). at z.sender.verdicts n) (sym went.0) ∙ e);
  }
  rounds_from name requests x [] y d d' went (l ∷ ls) h spelled ends = absurd ends
  rounds_from name requests x (heard ∷ more) y d d' went links h spelled ends =
      let g = more_going name requests x.sender.verdicts x h in
      let next = hear_going name requests x.sender.verdicts (offer_more x) heard g in
      subst (λ (vs : List (Option Verdict)). RoundsSend name requests vs y.sender.verdicts links) g.verdicts_are
      (round_send name requests (offer_more x).sender g.rest heard d went.0 went.2 _ y.sender.verdicts links g.offered
      spelled ends
      (λ ls e. rounds_from name requests (hear_in (offer_more x) heard) more y went.0 d' went.3 ls next spelled e))

  pub rounds_send : RoundsSendRequests dial reader writer
  rounds_send name requests rounds last d d' went links named each ends =
      let first = rounds_from name requests (new_sending name requests) went.heard went.following d d' went.went links
      (record {
        requests_are = refl;
        rest = requests;
        offered = record { name_is = refl; whole = refl; numbered = λ n below none. absurd (omega (arith, below)) };
        verdicts_are = refl;
      })
      (record { named = named; each = each }) ends in
      record { wrote = first.says; told = λ n v e. inr (only_now n v (first.heard n v (same n v went.ends e))) }
    where
      same : (n : ℕ) (v : Verdict) →
          ((length went.heard ≡ rounds) × (last ≡ went.following))
          ⊎ ((length went.heard < rounds) × (last ≡ offer_more went.following) × IsSettled last) →
          at last.sender.verdicts n ≡ Some v → at went.following.sender.verdicts n ≡ Some v
      same n v (inl k) e = ap (λ (z : Sending). at z.sender.verdicts n) (sym k.1) ∙ e
      same n v (inr k) e =
          sym (ap (λ (vs : List (Option Verdict)). at vs n) (more_verdicts went.following))
          ∙ ap (λ (z : Sending). at z.sender.verdicts n) (sym k.1) ∙ e
