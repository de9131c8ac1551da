-- A link, from when it is made until it isn't used any more.
use Rattle.std.specs.Prelude.{◌≡◌, ◌≢◌, ℕ, ◌-◌, ◌^◌, ◌≤◌, false, Option, None, Some, Result, Ok, Err}
use Rattle.std.specs.Prelude.{List, [], ◌∷◌, ◌++◌, length}
use Rattle.bw_model.specs.World.{settled, pending}
use Rattle.bw_stream.specs.declared.sink.Sink.{Ghosts as Writer}
use Rattle.bw_stream.specs.declared.source.Source.{Ghosts as Reader}
use Rattle.bw_sender.specs.Senders.{IsSender}
use Rattle.bw_ports.specs.declared.dial.Dial.{Ghosts as DialGhosts}
use Rattle.bw_ports.specs.declared.dial.Duplex.{Duplex}
use Rattle.bw_ports.specs.declared.pause.Pause.{Ghosts as PauseGhosts}
use Rattle.bw_upload.specs.Chains.{Chain}
use Rattle.bw_upload.specs.Conversations.{new_line}
use Rattle.bw_upload.specs.Courses.{Course, CourseStep, UploadEvent, Leaves, fruitless_after}
use Rattle.bw_upload.specs.WindowFills.{is_done}
use Rattle.bw_upload.specs.FinalStops.{final_stop, final_stops}
use Rattle.bw_upload.specs.FeedStops.{StopsFeed}
use Rattle.bw_upload.specs.Supplies.{IsFilling}
use Rattle.bw_upload.specs.declared.feed.Feed.{Ghosts as FeedGhosts}
use Rattle.bw_sender.specs.declared.send_fault.SendFault.TheVariants as faults
use Rattle.bw_upload.specs.declared.observer.LinkEnd.{LinkEnd}
use Rattle.bw_upload.specs.declared.observer.LinkEnd.TheVariants as ends
use Rattle.bw_upload.specs.declared.outcome.Outcome.{Outcome}
use Rattle.bw_upload.specs.declared.outcome.Outcome.TheVariants as outcomes
use Rattle.bw_upload.specs.declared.supply.Supply.{Supply}

-- a link was just made, something is pending, and nothing is refused
pub record BeginsVisit {F P D R W : Type 0} (x : Course F P D R W) (supply : Supply) (f : F) (p : P)
    (link : Duplex R W) : Type 0 where
  pub filling : IsFilling x.filling supply f p
  pub line : x.line ≡ Some (new_line link.reader link.writer)
  pub some : pending x.filling.sender 0 ≢ None

-- why a link is left, unless memory was refused: then the upload ends
abbrev pub visit_end : {X : Type 0} → LinkEnd → Result LinkEnd (Outcome X)
visit_end ends.Ended = Ok ends.Ended
visit_end (ends.Broken faults.Read) = Ok (ends.Broken faults.Read)
visit_end (ends.Broken faults.Write) = Ok (ends.Broken faults.Write)
visit_end (ends.Broken faults.Memory) = Err outcomes.Memory
visit_end (ends.Broken faults.BadReply) = Ok (ends.Broken faults.BadReply)
visit_end (ends.Broken faults.TurnLimit) = Ok (ends.Broken faults.TurnLimit)
visit_end (ends.Stopped stop) = Ok (ends.Stopped stop)
visit_end ends.Refused = Ok ends.Refused
visit_end ends.Done = Ok ends.Done

-- what counts of links stays
pub record KeepsDials {F P D R W : Type 0} (x y : Course F P D R W) : Type 0 where
  pub dial : y.dial ≡ x.dial
  pub dials : y.dials ≡ x.dials

module _ {F P D R W X : Type 0} (feed : FeedGhosts F X) (pause : PauseGhosts P)
    (dial : DialGhosts D R W) (reader : Reader R) (writer : Writer W) (most : Option ℕ) where
  -- the upload ends in the course of it
  pub record StopsCourse (outcome : Outcome X) (events : List UploadEvent) (y : Course F P D R W)
      (supply : Supply) (f : F) (p : P) : Type 0 where
    pub sender_is : IsSender y.filling.sender supply.sender
    pub paused : y.filling.pause ≡ p
    pub stops : StopsFeed feed pause outcome y.filling f
    pub undone : outcome ≢ outcomes.Memory → is_done y.filling.sender y.filling.is_ended ≡ false
    pub many : outcome ≡ outcomes.Limit → 2 ^ 64 - 1 ≤ length events
    pub finals : final_stops events ≡ []

  -- the link was left
  pub record LeftAfter (end : LinkEnd) (events : List UploadEvent) (x y : Course F P D R W)
      (supply : Supply) (f : F) (p : P) : Type 0 where
    pub filling : IsFilling y.filling supply f p
    pub free : y.line ≡ None
    pub fruitless : y.fruitless
        ≡ fruitless_after x.before (settled y.filling.sender) x.fruitless
    pub last : (earlier : List UploadEvent) × (events ≡ earlier ++ Leaves end ∷ [])
    pub finals : final_stops events ≡ final_stop end

  abbrev pub VisitedBy : Result LinkEnd (Outcome X) → List UploadEvent → Course F P D R W →
      Course F P D R W → Supply → F → P → Type 0
  VisitedBy (Ok end) events x y supply f p = LeftAfter end events x y supply f p
  VisitedBy (Err outcome) events x y supply f p = StopsCourse outcome events y supply f p

  pub record Visits (result : Result LinkEnd (Outcome X)) (x : Course F P D R W) (supply : Supply)
      (f : F) (p : P) : Type 0 where
    pub events : List UploadEvent
    pub after : Course F P D R W
    pub went : Chain (CourseStep feed pause dial reader writer most) events x after
    pub kept : KeepsDials x after
    pub by : VisitedBy result events x after supply f p
