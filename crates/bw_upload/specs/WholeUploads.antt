-- A whole upload.
use Rattle.std.specs.Prelude.{◌≡◌, ℕ, Option, List}
use Rattle.bw_model.specs.Take.{Request}
use Rattle.bw_model.specs.World.{Sender as Defined}
use Rattle.bw_stream.specs.declared.sink.Sink.{Ghosts as Writer}
use Rattle.bw_stream.specs.declared.source.Source.{Ghosts as Reader}
use Rattle.bw_ports.specs.declared.dial.Dial.{Ghosts as DialGhosts}
use Rattle.bw_ports.specs.declared.pause.Pause.{Ghosts as PauseGhosts}
use Rattle.bw_sender.specs.Senders.{IsSender}
use Rattle.bw_upload.specs.Chains.{Chain}
use Rattle.bw_upload.specs.Courses.{Course, UploadEvent, CourseStep, starts}
use Rattle.bw_upload.specs.OfferedFeeds.{OffersFeed}
use Rattle.bw_upload.specs.FinalStops.{final_stops, named_stop}
use Rattle.bw_upload.specs.Links.{EndsUpload, SaysRightly, says_done}
use Rattle.bw_upload.specs.declared.feed.Feed.{Ghosts as FeedGhosts}
use Rattle.bw_upload.specs.declared.outcome.Outcome.{Outcome}
use Rattle.bw_sender.specs.declared.sender.Sender.{Sender}

module _ {F P D R W X : Type 0} (feed : FeedGhosts F X) (pause : PauseGhosts P)
    (dial : DialGhosts D R W) (reader : Reader R) (writer : Writer W) (most : Option ℕ) where
  -- From this sender on these events happened, and the upload ended so.
  pub record Uploads (s : Defined) (sender : Sender) (outcome : Outcome X) (f f' : F) (p p' : P)
      (d d' : D) : Type 0 where
    pub events : List UploadEvent
    pub last : Course F P D R W
    pub went : Chain (CourseStep feed pause dial reader writer most) events (starts s f p d) last
    pub sender_is : IsSender last.filling.sender sender
    pub paused : last.filling.pause ≡ p'
    pub dial_is : last.dial ≡ d'
    pub ends : EndsUpload feed pause dial reader writer most outcome events last f'
    pub rightly : SaysRightly feed pause most outcome last.filling
    -- no link was left for Conflict or TooFar, except the last for the one that it names
    pub finals : final_stops events ≡ named_stop outcome
    -- where it is known what the feed gives
    pub feeds : (requests : List Request) → feed.left f requests →
        OffersFeed s requests (says_done outcome) last.filling.sender
