-- What was offered are the first of the feed's requests, and what an upload that is done says of them.
use Rattle.std.proofs.Common.{◌≡◌, ◌≢◌, ℕ, suc, zero, ◌<◌, Bool, true, false, List, [], ◌∷◌, ◌++◌, length, Option, Some, None}
use Rattle.std.proofs.Common.{refl, sym, cond, ap, subst, ◌∙◌, arith, append_assoc, append-nil}
use Rattle.std.specs.Prelude.{◌==◌, is_none, slice_get}
use Rattle.std.proofs.lemmas.Bool.{and_parts, eqb-true, false≢true}
use Rattle.bw_model.specs.Bytes.{at}
use Rattle.bw_model.specs.Take.{Request, Verdict, Stored, is_stored}
use Rattle.bw_model.specs.World.{Sender as Defined, OfferFault, offer, offer_fault, pending, pending_from}
use Rattle.bw_model.specs.World.{refused, refused_from}
use Rattle.bw_sender.proofs.HeardSenders.{all_heard, stored_is}
use Rattle.bw_stream.specs.declared.sink.Sink.{Ghosts as Writer}
use Rattle.bw_stream.specs.declared.source.Source.{Ghosts as Reader}
use Rattle.bw_ports.specs.declared.dial.Dial.{Ghosts as DialGhosts}
use Rattle.bw_ports.specs.declared.pause.Pause.{Ghosts as PauseGhosts}
use Rattle.bw_upload.specs.Chains.{Chain}
use Rattle.bw_upload.specs.Conversations.{Conversing, TalkEvent, TalkStep, Says, Breaks, Hears}
use Rattle.bw_upload.specs.Courses.{Course, UploadEvent, Fills, Misses, Makes, Talks, Leaves, CourseStep, starts}
use Rattle.bw_upload.specs.OfferedFeeds.{HasEachStored, OffersFeed}
use Rattle.bw_upload.specs.WindowFills.{Filling, FillEvent, FillStep, Takes, Lacks, Closes, is_done}
use Rattle.bw_upload.specs.Links.{SaysRightly, says_done}
use Rattle.bw_upload.specs.declared.feed.Feed.{Ghosts as FeedGhosts}
use Rattle.bw_upload.specs.declared.outcome.Outcome.{Outcome}
use Rattle.bw_upload.specs.declared.outcome.Outcome.TheVariants as outcomes

-- ---- what is offered stays

accepted : (s : Defined) (r : Request) → offer_fault s r ≡ None → offer s r ≡ record s { offered = s.offered ++ r ∷ [] }
accepted s r e = ap (λ (o : Option OfferFault). cond (is_none o) (record s { offered = s.offered ++ r ∷ [] }) s) e

-- ---- all of them stored

-- where none has no verdict, and none is refused
each_stored : (m : ℕ) (rs : List Request) (vs : List (Option Verdict)) → pending_from m rs vs ≡ [] →
    refused_from m vs ≡ [] → (n : ℕ) → n < length rs → at vs n ≡ Some Stored
each_stored m [] vs none welcome n lt = absurd (omega (arith, lt))
each_stored m (r ∷ rs) [] none welcome n lt = absurd cc
each_stored m (r ∷ rs) (None ∷ vs) none welcome n lt = absurd cc
each_stored m (r ∷ rs) (Some v ∷ vs) none welcome n lt =
    go (is_stored v) refl welcome (each_stored (suc m) rs vs none) n lt
  where
    place : (k : ℕ) → k < suc (length rs) → is_stored v ≡ true →
        ((j : ℕ) → j < length rs → at vs j ≡ Some Stored) → at (Some v ∷ vs) k ≡ Some Stored
    place zero lt e rec = ap Some (stored_is v e)
    place (suc k) lt e rec = rec k (omega (arith, lt))

    go : (b : Bool) → is_stored v ≡ b →
        cond b (refused_from (suc m) vs) ((m, v) ∷ refused_from (suc m) vs) ≡ [] →
        (refused_from (suc m) vs ≡ [] → (j : ℕ) → j < length rs → at vs j ≡ Some Stored) → (k : ℕ) →
        k < suc (length rs) → at (Some v ∷ vs) k ≡ Some Stored
    go true e welcome rec k lt = place k lt e (rec welcome)
    go false e welcome rec k lt = absurd cc

no_first : {X : Type 0} (xs : List X) → slice_get xs 0 ≡ None → xs ≡ []
no_first [] e = refl
no_first (x ∷ xs) e = absurd cc

no_length : {X : Type 0} (xs : List X) → length xs ≡ 0 → xs ≡ []
no_length [] e = refl
no_length (x ∷ xs) e = absurd (omega (arith, e))

none_there : {X : Type 0} (o : Option X) → is_none o ≡ true → o ≡ None
none_there None e = refl
none_there (Some x) e = absurd (false≢true e)

-- an upload is done with the feed at its end, and each request stored
done_so : (s : Defined) (ended : Bool) → is_done s ended ≡ true → (ended ≡ true) × HasEachStored s
done_so s ended done =
    let first = and_parts ended _ done in
    let second = and_parts (is_none (pending s 0)) (length (refused s) == 0) first.1 in
    let none = no_first (pending_from 0 s.offered s.verdicts) (none_there (pending s 0) second.0) in
    let welcome = no_length (refused s) (eqb-true (length (refused s)) 0 second.1) in
    (first.0, each_stored 0 s.offered s.verdicts none welcome)

module _ {F P X : Type 0} (feed : FeedGhosts F X) (pause : PauseGhosts P) where
  -- these were offered of the feed's requests so far, and these are still to come
  pub record FedSoFar (s : Defined) (requests : List Request) (x : Filling F P) : Type 0 where
    pub given : List Request
    pub rest : List Request
    pub all : requests ≡ given ++ rest
    pub offered : x.sender.offered ≡ s.offered ++ given
    pub left : feed.left x.feed rest
    pub over : x.is_ended ≡ true → rest ≡ []

  never_over : (b : Bool) (rest : List Request) → b ≡ false → b ≡ true → rest ≡ []
  never_over b rest e f = absurd cc

  fed_fill : (e : FillEvent) (s : Defined) (requests : List Request) (x y : Filling F P) → FillStep feed pause e x y →
      FedSoFar s requests x → FedSoFar s requests y
  fed_fill (Takes r) s requests x y step so =
      let next = step.given.left so.rest so.left in
      record {
        given = so.given ++ r ∷ [];
        rest = next.0;
        all = so.all ∙ ap (λ (z : List Request). so.given ++ z) next.1 ∙ sym (append_assoc so.given (r ∷ []) next.0);
        offered = ap (λ (t : Defined). t.offered) (step.sender ∙ accepted x.sender r step.accepted)
            ∙ ap (λ (z : List Request). z ++ r ∷ []) so.offered ∙ append_assoc s.offered so.given (r ∷ []);
        left = next.2;
        over = never_over y.is_ended next.0 step.goes_on;
      }
  fed_fill Lacks s requests x y step so = record {
    given = so.given;
    rest = so.rest;
    all = so.all;
    offered = ap (λ (t : Defined). t.offered) step.sender ∙ so.offered;
    left = step.given.left so.rest so.left;
    over = never_over y.is_ended so.rest step.goes_on;
  }
  fed_fill Closes s requests x y step so =
      let next = step.given.left so.rest so.left in
      record {
        given = so.given;
        rest = [];
        all = so.all ∙ ap (λ (z : List Request). so.given ++ z) next.0;
        offered = ap (λ (t : Defined). t.offered) step.sender ∙ so.offered;
        left = next.1;
        over = λ e. refl;
      }

  -- another sender to which the same was offered
  fed_on : (s : Defined) (requests : List Request) (x y : Filling F P) → y.sender.offered ≡ x.sender.offered →
      y.feed ≡ x.feed → y.is_ended ≡ x.is_ended → FedSoFar s requests x → FedSoFar s requests y
  fed_on s requests x y same feed_same end_same so = record {
    given = so.given;
    rest = so.rest;
    all = so.all;
    offered = same ∙ so.offered;
    left = subst (λ (f : F). feed.left f so.rest) (sym feed_same) so.left;
    over = λ e. so.over (sym end_same ∙ e);
  }

module _ {R W : Type 0} (reader : Reader R) (writer : Writer W) where
  talk_offers : (e : TalkEvent) (x y : Conversing R W) → TalkStep reader writer e x y →
      y.sender.offered ≡ x.sender.offered
  talk_offers Says x y step = ap (λ (t : Conversing R W). t.sender.offered) step.is
  talk_offers Breaks x y step = ap (λ (t : Conversing R W). t.sender.offered) step.is
  talk_offers (Hears heard) x y step =
      ap (λ (t : Conversing R W). t.sender.offered) step.is ∙ all_heard x.sender heard

module _ {F P D R W X : Type 0} (feed : FeedGhosts F X) (pause : PauseGhosts P) (dial : DialGhosts D R W)
    (reader : Reader R) (writer : Writer W) (most : Option ℕ) where
  fed_step : (e : UploadEvent) (s : Defined) (requests : List Request) (x y : Course F P D R W) →
      CourseStep feed pause dial reader writer most e x y → FedSoFar feed pause s requests x.filling →
      FedSoFar feed pause s requests y.filling
  fed_step (Fills e) s requests x y step so = fed_fill feed pause e s requests x.filling y.filling step.step so
  fed_step Misses s requests x y step so =
      fed_on feed pause s requests x.filling y.filling
      (ap (λ (c : Course F P D R W). c.filling.sender.offered) step.is)
      (ap (λ (c : Course F P D R W). c.filling.feed) step.is)
      (ap (λ (c : Course F P D R W). c.filling.is_ended) step.is) so
  fed_step Makes s requests x y step so =
      fed_on feed pause s requests x.filling y.filling
      (ap (λ (c : Course F P D R W). c.filling.sender.offered) step.is)
      (ap (λ (c : Course F P D R W). c.filling.feed) step.is)
      (ap (λ (c : Course F P D R W). c.filling.is_ended) step.is) so
  fed_step (Talks e) s requests x y step so =
      fed_on feed pause s requests x.filling y.filling
      (ap (λ (c : Course F P D R W). c.filling.sender.offered) step.is
      ∙ talk_offers reader writer e _ step.t step.step)
      (ap (λ (c : Course F P D R W). c.filling.feed) step.is)
      (ap (λ (c : Course F P D R W). c.filling.is_ended) step.is) so
  fed_step (Leaves end) s requests x y step so =
      fed_on feed pause s requests x.filling y.filling
      (ap (λ (c : Course F P D R W). c.filling.sender.offered) step.is)
      (ap (λ (c : Course F P D R W). c.filling.feed) step.is)
      (ap (λ (c : Course F P D R W). c.filling.is_ended) step.is) so

  fed_chain : (es : List UploadEvent) (s : Defined) (requests : List Request) (x y : Course F P D R W) →
      Chain (CourseStep feed pause dial reader writer most) es x y → FedSoFar feed pause s requests x.filling →
      FedSoFar feed pause s requests y.filling
  fed_chain [] s requests x y went so =
      subst (λ (c : Course F P D R W). FedSoFar feed pause s requests c.filling) (sym went) so
  fed_chain (e ∷ es) s requests x y went so =
      fed_chain es s requests went.0 y went.2 (fed_step e s requests x went.0 went.1 so)

  fed_first : (s : Defined) (requests : List Request) (f : F) (p : P) (d : D) → feed.left f requests →
      FedSoFar feed pause s requests (starts {F = F} {P = P} {D = D} {R = R} {W = W} s f p d).filling
  fed_first s requests f p d left = record {
    given = [];
    rest = requests;
    all = refl;
    offered = sym (append-nil s.offered);
    left = left;
    over = λ e. absurd (false≢true e);
  }

  not_memory : (outcome : Outcome X) → says_done outcome ≡ true → outcome ≢ outcomes.Memory
  not_memory outcome done e = false≢true (sym (ap says_done e) ∙ done)

  pub feeds_so : (es : List UploadEvent) (s : Defined) (requests : List Request) (f : F) (p : P) (d : D)
      (y : Course F P D R W) (outcome : Outcome X) →
      Chain (CourseStep feed pause dial reader writer most) es (starts s f p d) y →
      SaysRightly feed pause most outcome y.filling → feed.left f requests →
      OffersFeed s requests (says_done outcome) y.filling.sender
  feeds_so es s requests f p d y outcome went rightly left =
      let so = fed_chain es s requests (starts s f p d) y went (fed_first s requests f p d left) in
      let is : says_done outcome ≡ true → is_done y.filling.sender y.filling.is_ended ≡ true = λ done.
      (and_parts (is_done y.filling.sender y.filling.is_ended) _ (sym (rightly (not_memory outcome done)) ∙ done)).0 in
      record {
        given = so.given;
        rest = so.rest;
        all = so.all;
        offered = so.offered;
        none_left = λ done. so.over (done_so y.filling.sender y.filling.is_ended (is done)).0;
        stored = λ done. (done_so y.filling.sender y.filling.is_ended (is done)).1;
      }
