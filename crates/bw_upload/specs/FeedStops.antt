-- Why the feed isn't asked any more.
use Rattle.std.specs.Prelude.{◌≡◌, ◌≢◌, None, Ok, Err}
use Rattle.bw_model.specs.Take.{Request}
use Rattle.bw_model.specs.World.{offer_fault}
use Rattle.bw_sender.specs.Offers.{fault_of}
use Rattle.bw_ports.specs.declared.pause.Pause.{Ghosts as PauseGhosts}
use Rattle.bw_upload.specs.WindowFills.{Filling, MayAsk, AsksFeed}
use Rattle.bw_upload.specs.declared.feed.Feed.{Ghosts as FeedGhosts}
use Rattle.bw_upload.specs.declared.feed.Given.TheVariants as gives
use Rattle.bw_upload.specs.declared.outcome.Outcome.{Outcome}
use Rattle.bw_upload.specs.declared.outcome.Outcome.TheVariants as outcomes

module _ {F P X : Type 0} (feed : FeedGhosts F X) (pause : PauseGhosts P) where
  -- by the request that it gave, which the sender doesn't accept, or by its fault
  abbrev pub StopsFeed : Outcome X → Filling F P → F → Type 0
  StopsFeed outcomes.Done x f = ⊥
  StopsFeed (outcomes.Refused n v) x f = ⊥
  StopsFeed (outcomes.Conflict n) x f = ⊥
  StopsFeed (outcomes.TooFar n) x f = ⊥
  StopsFeed (outcomes.NotOffered error) x f =
      (r : Request) × MayAsk feed pause x
      × AsksFeed feed x.feed (Ok (gives.Request r)) f
      × (offer_fault x.sender r ≡ fault_of error) × (fault_of error ≢ None)
  StopsFeed outcomes.Fruitless x f = ⊥
  StopsFeed (outcomes.Feed fault) x f = MayAsk feed pause x × AsksFeed feed x.feed (Err fault) f
  StopsFeed outcomes.Memory x f = Unit {0}
  StopsFeed outcomes.Limit x f = x.feed ≡ f
