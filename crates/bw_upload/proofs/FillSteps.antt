-- The feed is asked again and again.
use Rattle.std.proofs.Common.{◌≡◌, ◌≢◌, ◌⊎◌, ℕ, suc, ◌+◌, ◌-◌, ◌^◌, ◌≤◌, ◌<◌, Bool, true, false, cond, List, [], ◌∷◌, ◌++◌}
use Rattle.std.proofs.Common.{length, Option, Some, None, Result, Ok, Err, refl, sym, ap, subst, ◌∙◌, arith, inl, inr}
use Rattle.std.specs.Prelude.{is_none, is_some, option_map, nat_le, slice_get}
use Rattle.std.proofs.lemmas.Bool.{leb-true}
use Rattle.std.specs.Borrow.{Bor}
use Rattle.std.proofs.lemmas.List.{length-append}
use Rattle.bw_model.specs.Bytes.{first_free}
use Rattle.bw_model.specs.Take.{Request, Verdict}
use Rattle.bw_model.specs.Turn.{window}
use Rattle.bw_model.specs.World.{Sender as Defined, settled, pending, pending_from, offer, offer_fault}
use Rattle.bw_sender.specs.Offers.{fault_of, lent_pending}
use Rattle.bw_sender.specs.Senders.{IsSender}
use Rattle.bw_sender.specs.declared.offer.OfferError.{OfferError}
use Rattle.bw_sender.specs.declared.offer.OfferError.TheVariants as errors
use Rattle.bw_ports.specs.declared.pause.Pause.{Ghosts as PauseGhosts}
use Rattle.bw_upload.specs.Chains.{Chain}
use Rattle.bw_upload.specs.WindowFills.{is_done, Filling, FillEvent, FillStep, Takes, Lacks, Closes, MayAsk, AsksFeed}
use Rattle.bw_upload.specs.FeedStops.{StopsFeed}
use Rattle.bw_upload.specs.Supplies.{IsFilling, FilledBy, FilledOnceBy, FillsUp, FillsOnce, FollowsFeed}
use Rattle.bw_upload.specs.Supplies.{outcome_of_offer}
use Rattle.bw_upload.specs.declared.feed.Feed.{Ghosts as FeedGhosts}
use Rattle.bw_upload.specs.declared.feed.Given.{Given}
use Rattle.bw_upload.specs.declared.feed.Given.TheVariants as gives
use Rattle.bw_upload.specs.declared.outcome.Outcome.{Outcome}
use Rattle.bw_upload.specs.declared.outcome.Outcome.TheVariants as outcomes
use Rattle.bw_upload.specs.declared.supply.Supply.{Supply}
use Rattle.bw_upload.proofs.ChainSteps.{chain_on}

-- ---- offers

-- an offer changes no verdict
pub offer_verdicts : (s : Defined) (r : Request) → (offer s r).verdicts ≡ s.verdicts
offer_verdicts s r = go (is_none (offer_fault s r))
  where
    go : (b : Bool) → (cond b (record s { offered = s.offered ++ r ∷ [] }) s).verdicts ≡ s.verdicts
    go true = refl
    go false = refl

-- a full window has a request without a verdict
pub full_pending : (s : Defined) → nat_le (settled s + window) (length s.offered) ≡ true → pending s 0 ≢ None
full_pending s full = some 0 s.offered s.verdicts (within full)
  where
    within : nat_le (settled s + window) (length s.offered) ≡ true → first_free s.verdicts < length s.offered
    within e = let le = leb-true (settled s + window) (length s.offered) e in omega (arith, le)

    some : (n : ℕ) (rs : List Request) (vs : List (Option Verdict)) → first_free vs < length rs →
        slice_get (pending_from n rs vs) 0 ≢ None
    some n [] vs lt = absurd (omega (arith, lt))
    some n (r ∷ rs) [] lt = λ e. absurd cc
    some n (r ∷ rs) (None ∷ vs) lt = λ e. absurd cc
    some n (r ∷ rs) (Some v ∷ vs) lt = some (suc n) rs vs (omega (arith, lt))

-- whether something is pending, as the code asks
pub lent_some : (o : Option (ℕ × Bor Request)) (p : Option (ℕ × Request)) → option_map lent_pending o ≡ p →
    is_some o ≡ true → p ≢ None
lent_some None p e is = absurd cc
lent_some (Some x) p e is = λ none. absurd cc

pub lent_none : (o : Option (ℕ × Bor Request)) (p : Option (ℕ × Request)) → option_map lent_pending o ≡ p →
    is_some o ≡ false → p ≡ None
lent_none None p e is = sym e
lent_none (Some x) p e is = absurd cc

pub lent_is_none : (o : Option (ℕ × Bor Request)) (p : Option (ℕ × Request)) → option_map lent_pending o ≡ p →
    is_none o ≡ is_none p
lent_is_none None p e = ap is_none e
lent_is_none (Some x) p e = ap is_none e

-- whether a sender is done, by what the code knows of its feed
pub done_as : {F P : Type 0} {supply : Supply} {f : F} {p : P} (x : Filling F P) (done : Bool) → IsFilling x supply f p →
    is_done x.sender supply.is_ended ≡ done → is_done x.sender x.is_ended ≡ done
done_as x done filling is = ap (λ (e : Bool). is_done x.sender e) (sym filling.ended) ∙ is

module _ {F P X : Type 0} (feed : FeedGhosts F X) (pause : PauseGhosts P) where
  -- ---- one question

  true_or_false : (r : Result Bool (Outcome X)) → r ≡ Ok true → r ≡ Ok false → ⊥
  true_or_false r a b = absurd cc

  ok_or_err : (r : Result Bool (Outcome X)) (b : Bool) (o : Outcome X) → r ≡ Ok b → r ≡ Err o → ⊥
  ok_or_err r b o e f = absurd cc

  same_err : (r : Result Bool (Outcome X)) (o u : Outcome X) → r ≡ Err o → r ≡ Err u → o ≡ u
  same_err r o u e f = cc

  pub fills_none : (x : Filling F P) (supply : Supply) (f : F) (p : P) → IsFilling x supply f p →
      (x.is_ended ≡ true) ⊎ (pending x.sender 0 ≢ None) → FillsOnce feed pause (Ok false) x supply f p
  fills_none x supply f p is why = record { events = []; after = x; went = refl; verdicts = refl; by = (is, why) }

  -- what the feed gave was followed, and it had something
  pub fills_given : (given : Result Given X) (x : Filling F P) (supply supply' : Supply) (f f' : F) (p : P) →
      IsFilling x supply f p → MayAsk feed pause x → AsksFeed feed f given f' →
      FollowsFeed (Ok true) given x.sender supply supply' → FillsOnce feed pause (Ok true) x supply' f' p
  fills_given (Ok (gives.Request r)) x supply supply' f f' p is may g h =
      let y : Filling F P = record { sender = offer x.sender r; is_ended = false; feed = f'; pause = x.pause } in
      record {
        events = Takes r ∷ [];
        after = y;
        went = (
          y,
          record {
            may = may;
            given = subst (λ (z : F). AsksFeed feed z (Ok (gives.Request r)) f') (sym is.feed) g;
            accepted = h.1;
            sender = refl;
            goes_on = refl;
            unpaused = refl;
          },
          refl,
        );
        verdicts = offer_verdicts x.sender r;
        by = (
          record { sender = h.2; ended = h.3 ∙ is.ended ∙ may.goes_on; feed = refl; pause = is.pause },
          refl,
        );
      }
  fills_given (Ok gives.NotYet) x supply supply' f f' p is may g h = absurd (true_or_false (Ok true) refl h.0)
  fills_given (Ok gives.End) x supply supply' f f' p is may g h =
      let y : Filling F P = record { sender = x.sender; is_ended = true; feed = f'; pause = x.pause } in
      record {
        events = Closes ∷ [];
        after = y;
        went = (
          y,
          record {
            may = may;
            given = subst (λ (z : F). AsksFeed feed z (Ok gives.End) f') (sym is.feed) g;
            sender = refl;
            ended = refl;
            unpaused = refl;
          },
          refl,
        );
        verdicts = refl;
        by = (
          record {
            sender = subst (IsSender x.sender) (sym h.2) is.sender;
            ended = h.1;
            feed = refl;
            pause = is.pause;
          },
          refl,
        );
      }
  fills_given (Err fault) x supply supply' f f' p is may g h = absurd (ok_or_err (Ok true) true (outcomes.Feed fault) refl h.0)

  -- it had nothing yet, and the state is this then
  abbrev waiting_on : Filling F P → F → P → Filling F P
  waiting_on x f' p' = record { sender = x.sender; is_ended = false; feed = f'; pause = p' }

  lacks : (given : Result Given X) (x : Filling F P) (supply supply' : Supply) (f f' : F) (p p' : P) →
      IsFilling x supply f p → MayAsk feed pause x → AsksFeed feed f given f' →
      FollowsFeed (Ok false) given x.sender supply supply' →
      ((pending x.sender 0 ≡ None) × pause.waits p 100 p') ⊎ ((pending x.sender 0 ≢ None) × (p' ≡ p)) →
      FillStep feed pause Lacks x (waiting_on x f' p') × IsFilling (waiting_on x f' p') supply' f' p'
  lacks (Ok (gives.Request r)) x supply supply' f f' p p' is may g h waits = absurd (wrong h.0)
    where
      wrong : false ≡ true → ⊥
      wrong e = absurd cc
  lacks (Ok gives.NotYet) x supply supply' f f' p p' is may g h waits = (
    record {
      may = may;
      given = subst (λ (z : F). AsksFeed feed z (Ok gives.NotYet) f') (sym is.feed) g;
      sender = refl;
      goes_on = refl;
      waits = subst (λ (z : P). ((pending x.sender 0 ≡ None) × pause.waits z 100 p')
          ⊎ ((pending x.sender 0 ≢ None) × (p' ≡ z))) (sym is.pause) waits;
    },
    record {
      sender = subst (λ (z : Supply). IsSender x.sender z.sender) (sym h.1) is.sender;
      ended = ap (λ (z : Supply). z.is_ended) h.1 ∙ is.ended ∙ may.goes_on;
      feed = refl;
      pause = refl;
    },
  )
  lacks (Ok gives.End) x supply supply' f f' p p' is may g h waits = absurd (true_or_false (Ok false) h.0 refl)
  lacks (Err fault) x supply supply' f f' p p' is may g h waits = absurd (ok_or_err (Ok false) false (outcomes.Feed fault) refl h.0)

  has_lacked : (result : Result Bool (Outcome X)) (x : Filling F P) (supply : Supply) (f : F) (p : P) →
      FillStep feed pause Lacks x (waiting_on x f p) →
      FilledOnceBy feed pause result (Lacks ∷ []) (waiting_on x f p) supply f p →
      FillsOnce feed pause result x supply f p
  has_lacked result x supply f p step by = record {
    events = Lacks ∷ [];
    after = waiting_on x f p;
    went = (waiting_on x f p, step, refl);
    verdicts = refl;
    by = by;
  }

  pub fills_waiting : (given : Result Given X) (x : Filling F P) (supply supply' : Supply) (f f' : F) (p p' : P) →
      IsFilling x supply f p → MayAsk feed pause x → AsksFeed feed f given f' →
      FollowsFeed (Ok false) given x.sender supply supply' → pending x.sender 0 ≡ None → pause.waits p 100 p' →
      FillsOnce feed pause (Ok true) x supply' f' p'
  fills_waiting given x supply supply' f f' p p' is may g h none waits =
      let l = lacks given x supply supply' f f' p p' is may g h (inl (none, waits)) in
      has_lacked (Ok true) x supply' f' p' l.0 (l.1, refl)

  pub fills_later : (given : Result Given X) (x : Filling F P) (supply supply' : Supply) (f f' : F) (p : P) →
      IsFilling x supply f p → MayAsk feed pause x → AsksFeed feed f given f' →
      FollowsFeed (Ok false) given x.sender supply supply' → pending x.sender 0 ≢ None →
      FillsOnce feed pause (Ok false) x supply' f' p
  fills_later given x supply supply' f f' p is may g h some =
      let l = lacks given x supply supply' f f' p p is may g h (inr (some, refl)) in
      has_lacked (Ok false) x supply' f' p l.0 (l.1, inr some)

  -- nothing may be pending where it had nothing yet
  pub lacks_sender : (given : Result Given X) (s : Defined) (supply supply' : Supply) →
      FollowsFeed (Ok false) given s supply supply' → IsSender s supply.sender → IsSender s supply'.sender
  lacks_sender (Ok (gives.Request r)) s supply supply' h is = absurd (wrong h.0)
    where
      wrong : false ≡ true → ⊥
      wrong e = absurd cc
  lacks_sender (Ok gives.NotYet) s supply supply' h is = subst (λ (z : Supply). IsSender s z.sender) (sym h.1) is
  lacks_sender (Ok gives.End) s supply supply' h is = subst (IsSender s) (sym h.2) is
  lacks_sender (Err fault) s supply supply' h is = subst (λ (z : Supply). IsSender s z.sender) (sym h.1) is

  -- the upload ends, without a step
  ends_here : (outcome : Outcome X) (x : Filling F P) (supply : Supply) (f : F) (p : P) →
      FilledOnceBy feed pause (Err outcome) [] x supply f p → FillsOnce feed pause (Err outcome) x supply f p
  ends_here outcome x supply f p by = record { events = []; after = x; went = refl; verdicts = refl; by = by }

  pub fills_stopped : (outcome : Outcome X) (given : Result Given X) (x : Filling F P) (supply supply' : Supply)
      (f f' : F) (p : P) → IsFilling x supply f p → MayAsk feed pause x → AsksFeed feed f given f' →
      FollowsFeed (Err outcome) given x.sender supply supply' → FillsOnce feed pause (Err outcome) x supply' f' p
  fills_stopped outcome (Ok (gives.Request r)) x supply supply' f f' p is may g h =
      let stop = stopped h.0 (subst (λ (z : F). AsksFeed feed z (Ok (gives.Request r)) f') (sym is.feed) g) h.2 in
      ends_here outcome x supply' f' p (
        h.3,
        may.goes_on,
        is.pause,
        subst (λ (z : Outcome X). StopsFeed feed pause z x f') (sym h.1) stop.0,
        λ e. stop.1 (sym h.1 ∙ e),
      )
    where
      stopped : (error : OfferError) → AsksFeed feed x.feed (Ok (gives.Request r)) f' →
          fault_of error ≡ offer_fault x.sender r →
          StopsFeed feed pause (outcome_of_offer error) x f' × (outcome_of_offer {X = X} error ≢ outcomes.Limit)
      stopped errors.NumbersSpent g e = ((r, may, g, sym e, λ h. absurd cc), λ h. absurd cc)
      stopped errors.BeforeOpen g e = ((r, may, g, sym e, λ h. absurd cc), λ h. absurd cc)
      stopped errors.AfterClose g e = ((r, may, g, sym e, λ h. absurd cc), λ h. absurd cc)
      stopped errors.WindowFull g e = ((r, may, g, sym e, λ h. absurd cc), λ h. absurd cc)
      stopped errors.Memory g e = (tt, λ h. absurd cc)
  fills_stopped outcome (Ok gives.NotYet) x supply supply' f f' p is may g h = absurd (ok_or_err (Err outcome) false outcome h.0 refl)
  fills_stopped outcome (Ok gives.End) x supply supply' f f' p is may g h = absurd (ok_or_err (Err outcome) true outcome h.0 refl)
  fills_stopped outcome (Err fault) x supply supply' f f' p is may g h =
      let same : outcome ≡ outcomes.Feed fault = same_err (Err outcome) outcome (outcomes.Feed fault) refl h.0 in
      ends_here outcome x supply' f' p (
        subst (λ (z : Supply). IsSender x.sender z.sender) (sym h.1) is.sender,
        may.goes_on,
        is.pause,
        subst (λ (z : Outcome X). StopsFeed feed pause z x f') (sym same)
            (may, subst (λ (z : F). AsksFeed feed z (Err fault) f') (sym is.feed) g),
        λ e. not_limit (sym same ∙ e),
      )
    where
      not_limit : outcomes.Feed fault ≡ outcomes.Limit → ⊥
      not_limit e = absurd cc

  -- ---- question after question

  pub record FilledSoFar (questions : ℕ) (x : Filling F P) (supply : Supply) (f : F) (p : P) : Type 0 where
    pub events : List FillEvent
    pub after : Filling F P
    pub went : Chain (FillStep feed pause) events x after
    pub verdicts : after.sender.verdicts ≡ x.sender.verdicts
    pub is : IsFilling after supply f p
    pub many : questions ≤ length events

  pub so_far_none : (x : Filling F P) (supply : Supply) (f : F) (p : P) → IsFilling x supply f p →
      FilledSoFar 0 x supply f p
  so_far_none x supply f p is = record {
    events = [];
    after = x;
    went = refl;
    verdicts = refl;
    is = is;
    many = omega arith;
  }

  pub so_far_more : (n : ℕ) (go_on : Bool) (x : Filling F P) (supply supply' : Supply) (f f' : F) (p p' : P) →
      go_on ≡ true → FilledSoFar n x supply f p →
      ((y : Filling F P) → IsFilling y supply f p → FillsOnce feed pause (Ok go_on) y supply' f' p') →
      FilledSoFar (n + 1) x supply' f' p'
  so_far_more n false x supply supply' f f' p p' e so h = absurd cc
  so_far_more n true x supply supply' f f' p p' e so h =
      let m = h so.after so.is in
      let len = length-append so.events m.events in
      record {
        events = so.events ++ m.events;
        after = m.after;
        went = chain_on (FillStep feed pause) so.events m.events x so.after m.after so.went m.went;
        verdicts = m.verdicts ∙ so.verdicts;
        is = m.by.0;
        many = omega (arith, len, so.many, m.by.1);
      }

  -- the questions so far, and the last one
  with_last : (n : ℕ) (result : Result (Unit {0}) (Outcome X)) (once : Result Bool (Outcome X)) (x : Filling F P)
      (supply supply' : Supply) (f f' : F) (p p' : P) (so : FilledSoFar n x supply f p)
      (m : FillsOnce feed pause once so.after supply' f' p') →
      FilledBy feed pause result (so.events ++ m.events) m.after supply' f' p' →
      FillsUp feed pause result x supply' f' p'
  with_last n result once x supply supply' f f' p p' so m by = record {
    events = so.events ++ m.events;
    after = m.after;
    went = chain_on (FillStep feed pause) so.events m.events x so.after m.after so.went m.went;
    verdicts = m.verdicts ∙ so.verdicts;
    by = by;
  }

  pub so_far_done : (n : ℕ) (go_on : Bool) (x : Filling F P) (supply supply' : Supply) (f f' : F) (p p' : P) →
      go_on ≡ false → FilledSoFar n x supply f p →
      ((y : Filling F P) → IsFilling y supply f p → FillsOnce feed pause (Ok go_on) y supply' f' p') →
      FillsUp feed pause (Ok tt) x supply' f' p'
  so_far_done n true x supply supply' f f' p p' e so h = absurd cc
  so_far_done n false x supply supply' f f' p p' e so h =
      let m = h so.after so.is in
      with_last n (Ok tt) (Ok false) x supply supply' f f' p p' so m m.by

  pub so_far_stopped : (n : ℕ) (outcome : Outcome X) (x : Filling F P) (supply supply' : Supply) (f f' : F) (p p' : P)
      → FilledSoFar n x supply f p →
      ((y : Filling F P) → IsFilling y supply f p → FillsOnce feed pause (Err outcome) y supply' f' p') →
      FillsUp feed pause (Err outcome) x supply' f' p'
  so_far_stopped n outcome x supply supply' f f' p p' so h =
      let m = h so.after so.is in
      with_last n (Err outcome) (Err outcome) x supply supply' f f' p p' so m
      (m.by.0, m.by.1, m.by.2, m.by.3, λ e. absurd (m.by.4 e))

  pub so_far_ended : (n : ℕ) (x : Filling F P) (supply : Supply) (f : F) (p : P) → supply.is_ended ≡ true →
      FilledSoFar n x supply f p → FillsUp feed pause (Ok tt) x supply f p
  so_far_ended n x supply f p ended so = record {
    events = so.events;
    after = so.after;
    went = so.went;
    verdicts = so.verdicts;
    by = (so.is, inl (sym so.is.ended ∙ ended));
  }

  pub so_far_limit : (n : ℕ) (x : Filling F P) (supply : Supply) (f : F) (p : P) → supply.is_ended ≡ false →
      2 ^ 64 - 1 ≤ n → FilledSoFar n x supply f p → FillsUp feed pause (Err outcomes.Limit) x supply f p
  so_far_limit n x supply f p ended past so = record {
    events = so.events;
    after = so.after;
    went = so.went;
    verdicts = so.verdicts;
    by = (
      so.is.sender,
      sym so.is.ended ∙ ended,
      so.is.pause,
      so.is.feed,
      λ e. omega (arith, past, so.many),
    );
  }
