-- How the code keeps what an upload is.
use Rattle.std.specs.Prelude.{◌≡◌, ◌≢◌, ◌⊎◌, ℕ, ◌-◌, ◌^◌, ◌≤◌, Bool, true, false, Option, None, Some}
use Rattle.std.specs.Prelude.{Result, Ok, Err, List, ◌∷◌, length}
use Rattle.bw_model.specs.Take.{Request, Verdict}
use Rattle.bw_model.specs.World.{Sender as Defined, offer, offer_fault, pending, refused}
use Rattle.bw_model.specs.VerdictMeanings.{verdict_meaning}
use Rattle.bw_sender.specs.declared.offer.OfferError.{OfferError}
use Rattle.bw_sender.specs.declared.offer.OfferError.TheVariants as errors
use Rattle.bw_sender.specs.Offers.{fault_of}
use Rattle.bw_sender.specs.Senders.{IsSender}
use Rattle.bw_ports.specs.declared.pause.Pause.{Ghosts as PauseGhosts}
use Rattle.bw_upload.specs.Chains.{Chain}
use Rattle.bw_upload.specs.WindowFills.{Filling, FillEvent, FillStep}
use Rattle.bw_upload.specs.FeedStops.{StopsFeed}
use Rattle.bw_upload.specs.declared.feed.Feed.{Ghosts as FeedGhosts}
use Rattle.bw_upload.specs.declared.feed.Given.{Given}
use Rattle.bw_upload.specs.declared.feed.Given.TheVariants as gives
use Rattle.bw_upload.specs.declared.outcome.Outcome.{Outcome}
use Rattle.bw_upload.specs.declared.outcome.Outcome.TheVariants as outcomes
use Rattle.bw_upload.specs.declared.supply.Supply.{Supply}

-- the code's values are what these definitions say
pub record IsFilling {F P : Type 0} (x : Filling F P) (supply : Supply) (f : F) (p : P)
    : Type 0 where
  pub sender : IsSender x.sender supply.sender
  pub ended : supply.is_ended ≡ x.is_ended
  pub feed : x.feed ≡ f
  pub pause : x.pause ≡ p

-- how an upload ends where an offer is refused
abbrev pub outcome_of_offer : {X : Type 0} → OfferError → Outcome X
outcome_of_offer errors.NumbersSpent = outcomes.NotOffered errors.NumbersSpent
outcome_of_offer errors.BeforeOpen = outcomes.NotOffered errors.BeforeOpen
outcome_of_offer errors.AfterClose = outcomes.NotOffered errors.AfterClose
outcome_of_offer errors.WindowFull = outcomes.NotOffered errors.WindowFull
outcome_of_offer errors.Memory = outcomes.Memory

-- a request was offered, and accepted; or it wasn't, and nothing changed
abbrev pub OffersOne : {X : Type 0} → Result Bool (Outcome X) → Defined → Request → Supply →
    Supply → Type 0
OffersOne (Ok some) s r x y =
    (some ≡ true) × (offer_fault s r ≡ None) × IsSender (offer s r) y.sender
    × (y.is_ended ≡ x.is_ended)
OffersOne (Err outcome) s r x y =
    (error : OfferError) × (outcome ≡ outcome_of_offer error) × (fault_of error ≡ offer_fault s r)
    × IsSender s y.sender × (y.is_ended ≡ x.is_ended)

-- what the feed gave was followed
abbrev pub FollowsFeed : {X : Type 0} → Result Bool (Outcome X) → Result Given X → Defined →
    Supply → Supply → Type 0
FollowsFeed result (Ok (gives.Request r)) s x y = OffersOne result s r x y
FollowsFeed result (Ok gives.NotYet) s x y = (result ≡ Ok false) × (y ≡ x)
FollowsFeed result (Ok gives.End) s x y =
    (result ≡ Ok true) × (y.is_ended ≡ true) × (y.sender ≡ x.sender)
FollowsFeed result (Err fault) s x y = (result ≡ Err (outcomes.Feed fault)) × (y ≡ x)

-- the first refused number ends the upload
abbrev pub RefusedBy : {X : Type 0} → Option (Outcome X) → Defined → Type 0
RefusedBy None s = length (refused s) ≡ 0
RefusedBy (Some outcomes.Done) s = ⊥
RefusedBy (Some (outcomes.Refused n v)) s =
    (rest : List (ℕ × Verdict)) × (refused s ≡ (n, verdict_meaning v) ∷ rest)
RefusedBy (Some (outcomes.Conflict n)) s = ⊥
RefusedBy (Some (outcomes.TooFar n)) s = ⊥
RefusedBy (Some (outcomes.NotOffered error)) s = ⊥
RefusedBy (Some outcomes.Fruitless) s = ⊥
RefusedBy (Some (outcomes.Feed fault)) s = ⊥
RefusedBy (Some outcomes.Memory) s = ⊥
RefusedBy (Some outcomes.Limit) s = ⊥

module _ {F P X : Type 0} (feed : FeedGhosts F X) (pause : PauseGhosts P) where
  -- the window was filled as far as can be now; or the upload ends
  abbrev pub FilledBy : Result (Unit {0}) (Outcome X) → List FillEvent → Filling F P → Supply →
      F → P → Type 0
  FilledBy (Ok u) events y supply f p =
      IsFilling y supply f p × ((y.is_ended ≡ true) ⊎ (pending y.sender 0 ≢ None))
  FilledBy (Err outcome) events y supply f p =
      IsSender y.sender supply.sender × (y.is_ended ≡ false) × (y.pause ≡ p)
      × StopsFeed feed pause outcome y f
      × (outcome ≡ outcomes.Limit → 2 ^ 64 - 1 ≤ length events)

  pub record FillsUp (result : Result (Unit {0}) (Outcome X)) (x : Filling F P) (supply : Supply)
      (f : F) (p : P) : Type 0 where
    pub events : List FillEvent
    pub after : Filling F P
    pub went : Chain (FillStep feed pause) events x after
    -- nothing was heard
    pub verdicts : after.sender.verdicts ≡ x.sender.verdicts
    pub by : FilledBy result events after supply f p

  -- the feed was asked once, if it may be, and it was waited if that is due; whether to ask again
  abbrev pub FilledOnceBy : Result Bool (Outcome X) → List FillEvent → Filling F P → Supply →
      F → P → Type 0
  FilledOnceBy (Ok false) events y supply f p =
      IsFilling y supply f p × ((y.is_ended ≡ true) ⊎ (pending y.sender 0 ≢ None))
  FilledOnceBy (Ok true) events y supply f p = IsFilling y supply f p × (length events ≡ 1)
  FilledOnceBy (Err outcome) events y supply f p =
      IsSender y.sender supply.sender × (y.is_ended ≡ false) × (y.pause ≡ p)
      × StopsFeed feed pause outcome y f × (outcome ≢ outcomes.Limit)

  pub record FillsOnce (result : Result Bool (Outcome X)) (x : Filling F P) (supply : Supply)
      (f : F) (p : P) : Type 0 where
    pub events : List FillEvent
    pub after : Filling F P
    pub went : Chain (FillStep feed pause) events x after
    pub verdicts : after.sender.verdicts ≡ x.sender.verdicts
    pub by : FilledOnceBy result events after supply f p
