-- The window is filled from the feed.
use Rattle.std.specs.Prelude.{◌≡◌, ◌≢◌, ◌⊎◌, ◌+◌, Bool, true, false, None, Ok, length}
use Rattle.std.specs.Prelude.{◌&&◌, ◌==◌, is_none, nat_le, Result}
use Rattle.bw_model.specs.Take.{Request}
use Rattle.bw_model.specs.Turn.{window}
use Rattle.bw_model.specs.World.{Sender, settled, pending, refused, offer, offer_fault}
use Rattle.bw_ports.specs.declared.pause.Pause.{Ghosts as PauseGhosts}
use Rattle.bw_upload.specs.Feeds.{GivesRequest}
use Rattle.bw_upload.specs.declared.feed.Feed.{Ghosts as FeedGhosts}
use Rattle.bw_upload.specs.declared.feed.Given.{Given}
use Rattle.bw_upload.specs.declared.feed.Given.TheVariants as gives

-- the sender, whether the feed has ended, the feed, and whoever waits
pub record Filling (F P : Type 0) : Type 0 where
  pub sender : Sender
  pub is_ended : Bool
  pub feed : F
  pub pause : P

-- what may happen
pub data FillEvent : Type 0 where
  -- the feed gives this request, and it is offered
  Takes : Request → FillEvent
  -- the feed has nothing yet
  Lacks : FillEvent
  -- the feed has ended
  Closes : FillEvent

-- the feed has ended, and all that was offered is settled, and stored
abbrev pub is_done : Sender → Bool → Bool
is_done s is_ended = is_ended && (is_none (pending s 0) && (length (refused s) == 0))

-- sixteen were offered from the first without a verdict on
abbrev pub is_window_full : Sender → Bool
is_window_full s = nat_le (settled s + window) (length s.offered)

-- all that was offered has its verdict
abbrev pub HasNonePending : Sender → Type 0
HasNonePending s = pending s 0 ≡ None

-- the feed was asked, and gave this
pub record AsksFeed {F X : Type 0} (feed : FeedGhosts F X) (f : F) (given : Result Given X) (f' : F)
    : Type 0 where
  pub received : feed.gives f given f'
  pub left : GivesRequest (feed.left f) given (feed.left f')

module _ {F P X : Type 0} (feed : FeedGhosts F X) (pause : PauseGhosts P) where
  -- the feed is asked only as long as it hasn't ended and the window has room
  pub record MayAsk (x : Filling F P) : Type 0 where
    pub goes_on : x.is_ended ≡ false
    pub room : is_window_full x.sender ≡ false

  -- 100 ms are waited exactly if nothing is pending
  abbrev pub WaitsIfIdle : Sender → P → P → Type 0
  WaitsIfIdle s p p' =
      (HasNonePending s × pause.waits p 100 p') ⊎ ((pending s 0 ≢ None) × (p' ≡ p))

  pub record TakesRequest (r : Request) (x y : Filling F P) : Type 0 where
    pub may : MayAsk x
    pub given : AsksFeed feed x.feed (Ok (gives.Request r)) y.feed
    pub accepted : offer_fault x.sender r ≡ None
    pub sender : y.sender ≡ offer x.sender r
    pub goes_on : y.is_ended ≡ false
    pub unpaused : y.pause ≡ x.pause

  pub record LacksRequest (x y : Filling F P) : Type 0 where
    pub may : MayAsk x
    pub given : AsksFeed feed x.feed (Ok gives.NotYet) y.feed
    pub sender : y.sender ≡ x.sender
    pub goes_on : y.is_ended ≡ false
    pub waits : WaitsIfIdle x.sender x.pause y.pause

  pub record ClosesFeed (x y : Filling F P) : Type 0 where
    pub may : MayAsk x
    pub given : AsksFeed feed x.feed (Ok gives.End) y.feed
    pub sender : y.sender ≡ x.sender
    pub ended : y.is_ended ≡ true
    pub unpaused : y.pause ≡ x.pause

  -- a step from one state to the next
  abbrev pub FillStep : FillEvent → Filling F P → Filling F P → Type 0
  FillStep (Takes r) x y = TakesRequest r x y
  FillStep Lacks x y = LacksRequest x y
  FillStep Closes x y = ClosesFeed x y
