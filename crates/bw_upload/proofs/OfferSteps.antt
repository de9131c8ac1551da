-- What offers leave, one by one.
use Rattle.std.proofs.Common.{◌≡◌, ◌≢◌, ℕ, ◌+◌, ◌≤◌, Bool, true, false, List, [], ◌∷◌, ◌++◌, length, drop, refl, sym}
use Rattle.std.proofs.Common.{◌∙◌, ◌<◌, ap, subst, Option, Some, None, cond, get_or}
use Rattle.std.specs.Prelude.{is_none}
use Rattle.std.proofs.lemmas.List.{length-append, drop_more}
use Rattle.std.proofs.Math.ListN.{drop_of_length-le}
use Rattle.bw_model.specs.Take.{Request}
use Rattle.bw_model.specs.World.{Sender as Defined, OfferFault, offer, offer_fault}
use Rattle.bw_sender.specs.Senders.{IsSender}
use Rattle.bw_sender.specs.declared.sender.Sender.{Sender}
use Rattle.bw_upload.specs.SendState.{Sending, IsSending, is_last_offer, offer_next, offer_all, offer_more}
use Rattle.bw_upload.specs.SendState.{unoffered}
use Rattle.bw_upload.specs.declared.dispatch.Dispatch.{Dispatch}

-- The sender.

pub taken : (s : Defined) (r : Request) → offer_fault s r ≡ None →
    offer s r ≡ record s { offered = s.offered ++ r ∷ [] }
taken s r e = ap (λ (o : Option OfferFault). cond (is_none o) (record s { offered = s.offered ++ r ∷ [] }) s) e

pub refused : (s : Defined) (r : Request) (f : OfferFault) → offer_fault s r ≡ Some f → offer s r ≡ s
refused s r f e = ap (λ (o : Option OfferFault). cond (is_none o) (record s { offered = s.offered ++ r ∷ [] }) s) e

one_offered : (s : Defined) (r : Request) → offer_fault s r ≡ None → length (offer s r).offered ≡ length s.offered + 1
one_offered s r e = ap (λ (t : Defined). length t.offered) (taken s r e) ∙ length-append s.offered (r ∷ [])

-- One offer.

-- the code has got this far
abbrev dispatched : Sender → ℕ → Bool → Dispatch
dispatched sender offered stopped = record { sender = sender; offered = offered; is_stopped = stopped }

pub next_taken : (x : Sending) (r r' : Request) (p : Dispatch) (sender : Sender) → r ≡ r' → IsSending x p →
    p.is_stopped ≡ false → offer_fault x.sender r ≡ None → IsSender (offer x.sender r) sender →
    IsSending (offer_next x r') (dispatched sender (p.offered + 1) p.is_stopped)
    × (true ≡ is_none (offer_fault x.sender r'))
next_taken x r r' p sender same k goes e is =
    subst (λ (q : Request). IsSending (offer_next x q) (dispatched sender (p.offered + 1) p.is_stopped)
    × (true ≡ is_none (offer_fault x.sender q))) same (
      record {
        sender = is;
        offered = ap (λ (n : ℕ). n + 1) k.offered ∙ sym (one_offered x.sender r e);
        stopped = goes ∙ sym (ap is_last_offer e);
      },
      sym (ap (λ (o : Option OfferFault). is_none o) e),
    )

pub next_refused : (x : Sending) (r r' : Request) (p : Dispatch) (sender : Sender) (last : Bool)
    (o : Option OfferFault) → r ≡ r' → IsSending x p → o ≡ offer_fault x.sender r → o ≢ None →
    last ≡ is_last_offer o → sender ≡ p.sender →
    IsSending (offer_next x r') (dispatched sender p.offered last)
    × (false ≡ is_none (offer_fault x.sender r'))
next_refused x r r' p sender last None same k e some is unchanged = absurd (some refl)
next_refused x r r' p sender last (Some f) same k e some is unchanged =
    let left = refused x.sender r f (sym e) in
    subst (λ (q : Request). IsSending (offer_next x q) (dispatched sender p.offered last)
    × (false ≡ is_none (offer_fault x.sender q))) same (
      record {
        sender = subst (λ (s : Defined). IsSender s sender) (sym left)
            (subst (IsSender x.sender) (sym unchanged) k.sender);
        offered = k.offered ∙ ap (λ (s : Defined). length s.offered) (sym left);
        stopped = is ∙ ap is_last_offer e;
      },
      ap (λ (o : Option OfferFault). is_none o) e,
    )

-- Offers in a row.

pub none_after : (x : Sending) → x.is_stopped ≡ true → offer_more x ≡ x
unfolding offer_more
none_after x e = ap (λ (b : Bool). cond b x (offer_all x (unoffered x))) e

pub none_left : (x : Sending) → length x.requests ≤ length x.sender.offered → offer_more x ≡ x
unfolding offer_more offer_all
none_left x past =
    ap (λ (rs : List Request). cond x.is_stopped x (offer_all x rs)) (drop_of_length-le x.requests past)
    ∙ go x.is_stopped
  where
    go : (b : Bool) → cond b x x ≡ x
    go true = refl
    go false = refl

goes_on : (x : Sending) → x.is_stopped ≡ false → offer_more x ≡ offer_all x (unoffered x)
unfolding offer_more
goes_on x e = ap (λ (b : Bool). cond b x (offer_all x (unoffered x))) e

pub all_taken : (x : Sending) (r : Request) (rs : List Request) → offer_fault x.sender r ≡ None →
    offer_all x (r ∷ rs) ≡ offer_all (offer_next x r) rs
unfolding offer_all
all_taken x r rs e =
    ap (λ (o : Option OfferFault). cond (is_none o) (offer_all (offer_next x r) rs) (offer_next x r)) e

pub all_refused : (x : Sending) (r : Request) (rs : List Request) (f : OfferFault) → offer_fault x.sender r ≡ Some f →
    offer_all x (r ∷ rs) ≡ offer_next x r
unfolding offer_all
all_refused x r rs f e =
    ap (λ (o : Option OfferFault). cond (is_none o) (offer_all (offer_next x r) rs) (offer_next x r)) e

pub more_taken : (x : Sending) (r : Request) → x.is_stopped ≡ false → true ≡ is_none (offer_fault x.sender r) →
    drop (length x.sender.offered) x.requests ≡ r ∷ drop (length x.sender.offered + 1) x.requests →
    offer_more x ≡ offer_more (offer_next x r)
more_taken x r goes e first = go (offer_fault x.sender r) refl e
  where
    go : (o : Option OfferFault) → offer_fault x.sender r ≡ o → true ≡ is_none o →
        offer_more x ≡ offer_more (offer_next x r)
    go None is e =
        goes_on x goes ∙ ap (offer_all x) first ∙ all_taken x r _ is
        ∙ ap (λ (n : ℕ). offer_all (offer_next x r) (drop n x.requests)) (sym (one_offered x.sender r is))
        ∙ sym (goes_on (offer_next x r) (ap is_last_offer is))
    go (Some f) is e = absurd (cc)

pub more_refused : (x : Sending) (r : Request) (rs : List Request) → x.is_stopped ≡ false →
    false ≡ is_none (offer_fault x.sender r) →
    drop (length x.sender.offered) x.requests ≡ r ∷ rs → offer_more x ≡ offer_next x r
more_refused x r rs goes e first = go (offer_fault x.sender r) refl e
  where
    go : (o : Option OfferFault) → offer_fault x.sender r ≡ o → false ≡ is_none o → offer_more x ≡ offer_next x r
    go None is e = absurd (cc)
    go (Some f) is e = goes_on x goes ∙ ap (offer_all x) first ∙ all_refused x r rs f is

-- offers leave the requests
all_keeps : (x : Sending) (rs : List Request) → (offer_all x rs).requests ≡ x.requests
unfolding offer_all
all_keeps x [] = refl
all_keeps x (r ∷ rs) = go (is_none (offer_fault x.sender r)) (all_keeps (offer_next x r) rs)
  where
    go : (b : Bool) → (offer_all (offer_next x r) rs).requests ≡ x.requests →
        (cond b (offer_all (offer_next x r) rs) (offer_next x r)).requests ≡ x.requests
    go true rec = rec
    go false rec = refl

pub more_keeps : (x : Sending) → (offer_more x).requests ≡ x.requests
unfolding offer_more
more_keeps x = go x.is_stopped
  where
    go : (b : Bool) → (cond b x (offer_all x (unoffered x))).requests ≡ x.requests
    go true = refl
    go false = all_keeps x (unoffered x)

-- from x on so much was offered that more of it leaves the same
pub record OffersOn (requests : List Request) (x : Sending) (p : Dispatch) : Type 0 where
  pub y : Sending
  pub is : IsSending y p
  pub same : offer_more x ≡ offer_more y
  pub from : y.requests ≡ requests

-- the request at the place is the first that isn't offered yet
first_unoffered : (requests : List Request) (x : Sending) (p : Dispatch) (r : Request) → IsSending x p →
    x.requests ≡ requests → p.offered < length requests → r ≡ get_or requests p.offered r →
    drop (length x.sender.offered) x.requests ≡ r ∷ drop (length x.sender.offered + 1) x.requests
first_unoffered requests x p r k from within is =
    let first : drop p.offered requests ≡ r ∷ drop (p.offered + 1) requests =
    drop_more requests p.offered r within ∙ ap (λ (q : Request). q ∷ drop (p.offered + 1) requests) (sym is) in
    subst (λ (n : ℕ). drop n x.requests ≡ r ∷ drop (n + 1) x.requests) k.offered
    (subst (λ (rs : List Request). drop p.offered rs ≡ r ∷ drop (p.offered + 1) rs) (sym from) first)

pub goes_further : (requests : List Request) (x : Sending) (p p' : Dispatch) (r : Request) (v : Bool)
    (o : OffersOn requests x p) → p.is_stopped ≡ false → p.offered < length requests →
    r ≡ get_or requests p.offered r → IsSending (offer_next o.y r) p' × (v ≡ is_none (offer_fault o.y.sender r)) →
    v ≡ true → OffersOn requests x p'
goes_further requests x p p' r v o goes within is stepped consumed = record {
  y = offer_next o.y r;
  is = stepped.0;
  same = o.same ∙ more_taken o.y r (sym o.is.stopped ∙ goes) (sym consumed ∙ stepped.1)
      (first_unoffered requests o.y p r o.is o.from within is);
  from = o.from;
}

pub stops_here : (requests : List Request) (x : Sending) (p p' : Dispatch) (r : Request) (v : Bool)
    (o : OffersOn requests x p) → p.is_stopped ≡ false → p.offered < length requests →
    r ≡ get_or requests p.offered r → IsSending (offer_next o.y r) p' × (v ≡ is_none (offer_fault o.y.sender r)) →
    v ≡ false → IsSending (offer_more x) p'
stops_here requests x p p' r v o goes within is stepped left =
    subst (λ (z : Sending). IsSending z p')
    (sym (o.same ∙ more_refused o.y r _ (sym o.is.stopped ∙ goes) (sym left ∙ stepped.1)
    (first_unoffered requests o.y p r o.is o.from within is))) stepped.0

pub no_more : (requests : List Request) (x : Sending) (p : Dispatch) → OffersOn requests x p →
    p.is_stopped ≡ true → IsSending (offer_more x) p
no_more requests x p o stopped =
    subst (λ (z : Sending). IsSending z p) (sym (o.same ∙ none_after o.y (sym o.is.stopped ∙ stopped))) o.is

pub all_offered : (requests : List Request) (x : Sending) (p : Dispatch) → OffersOn requests x p →
    length requests ≤ p.offered → IsSending (offer_more x) p
all_offered requests x p o past =
    let following : length o.y.requests ≤ length o.y.sender.offered =
    subst (λ (rs : List Request). length rs ≤ length o.y.sender.offered) (sym o.from)
    (subst (λ (n : ℕ). length requests ≤ n) o.is.offered past) in
    subst (λ (z : Sending). IsSending z p) (sym (o.same ∙ none_left o.y following)) o.is
