-- Links are made, one after another.
use Rattle.std.specs.Prelude.{◌≡◌, ◌≢◌, ◌⊎◌, ℕ, suc, ◌-◌, ◌^◌, ◌≤◌, Bool, true, false, Option, None, Result}
use Rattle.std.specs.Prelude.{Ok}
use Rattle.std.specs.Prelude.{Err, List, [], ◌∷◌, ◌++◌, length, ◌&&◌, ◌==◌}
use Rattle.bw_model.specs.Take.{Verdict}
use Rattle.bw_model.specs.World.{settled, pending, refused}
use Rattle.bw_model.specs.VerdictMeanings.{verdict_meaning}
use Rattle.bw_stream.specs.declared.sink.Sink.{Ghosts as Writer}
use Rattle.bw_stream.specs.declared.source.Source.{Ghosts as Reader}
use Rattle.bw_sender.specs.Senders.{IsSender}
use Rattle.bw_sender.specs.declared.stop.Stop.{Stop}
use Rattle.bw_sender.specs.declared.stop.Stop.TheVariants as stops
use Rattle.bw_ports.specs.declared.dial.Dial.{Ghosts as DialGhosts}
use Rattle.bw_ports.specs.declared.pause.Pause.{Ghosts as PauseGhosts}
use Rattle.bw_upload.specs.Backoff.{backoff, is_spent}
use Rattle.bw_upload.specs.Chains.{Chain}
use Rattle.bw_upload.specs.Courses.{Course, UploadEvent, Leaves, CourseStep, BacksOff, MayDial}
use Rattle.bw_upload.specs.Courses.{fruitless_after}
use Rattle.bw_upload.specs.WindowFills.{Filling, FillEvent, FillStep, is_done}
use Rattle.bw_upload.specs.FinalStops.{final_stops, named_stop}
use Rattle.bw_upload.specs.FeedStops.{StopsFeed}
use Rattle.bw_upload.specs.Supplies.{IsFilling}
use Rattle.bw_upload.specs.declared.feed.Feed.{Ghosts as FeedGhosts}
use Rattle.bw_upload.specs.declared.observer.LinkEnd.{LinkEnd}
use Rattle.bw_upload.specs.declared.observer.LinkEnd.TheVariants as ends
use Rattle.bw_upload.specs.declared.outcome.Outcome.{Outcome}
use Rattle.bw_upload.specs.declared.outcome.Outcome.TheVariants as outcomes
use Rattle.bw_upload.specs.declared.supply.Supply.{Supply}

-- the outcome says that all is stored
abbrev pub says_done : {X : Type 0} → Outcome X → Bool
says_done outcomes.Done = true
says_done (outcomes.Refused n v) = false
says_done (outcomes.Conflict n) = false
says_done (outcomes.TooFar n) = false
says_done (outcomes.NotOffered error) = false
says_done outcomes.Fruitless = false
says_done (outcomes.Feed fault) = false
says_done outcomes.Memory = false
says_done outcomes.Limit = false

-- the last thing that happened is that a link was left because of this reply
abbrev pub LastStop : List UploadEvent → Stop → Type 0
LastStop events stop =
    (earlier : List UploadEvent) × (events ≡ earlier ++ Leaves (ends.Stopped stop) ∷ [])

module _ {F P X : Type 0} (feed : FeedGhosts F X) (pause : PauseGhosts P) (most : Option ℕ) where
  -- why no link is made any more, after so many in a row that settled nothing and so many events
  abbrev pub EndsFilled : Outcome X → ℕ → ℕ → Filling F P → F → Type 0
  EndsFilled outcomes.Done n count x f = x.feed ≡ f
  EndsFilled (outcomes.Refused m v) n count x f =
      (rest : List (ℕ × Verdict)) × (refused x.sender ≡ (m, verdict_meaning v) ∷ rest)
      × (x.feed ≡ f)
  EndsFilled (outcomes.Conflict m) n count x f = ⊥
  EndsFilled (outcomes.TooFar m) n count x f = ⊥
  EndsFilled (outcomes.NotOffered error) n count x f =
      StopsFeed feed pause (outcomes.NotOffered error) x f
  EndsFilled outcomes.Fruitless n count x f = (is_spent most n ≡ true) × (x.feed ≡ f)
  EndsFilled (outcomes.Feed fault) n count x f = StopsFeed feed pause (outcomes.Feed fault) x f
  EndsFilled outcomes.Memory n count x f = Unit {0}
  EndsFilled outcomes.Limit n count x f = (2 ^ 64 - 1 ≤ count) × (x.feed ≡ f)

  -- it is done exactly if the feed has ended, all that was offered is settled and stored, and it
  -- names no reply that ends an upload; where memory was refused, that isn't said
  abbrev pub SaysRightly : Outcome X → Filling F P → Type 0
  SaysRightly outcome x = outcome ≢ outcomes.Memory →
      says_done outcome ≡ (is_done x.sender x.is_ended && (length (named_stop outcome) == 0))

  abbrev pub PreparedBy : Result (Unit {0}) (Outcome X) → ℕ → ℕ → Filling F P → Supply → F →
      P → Type 0
  PreparedBy (Ok u) n count y supply f p =
      IsFilling y supply f p × (pending y.sender 0 ≢ None) × (length (refused y.sender) ≡ 0)
      × (is_spent most n ≡ false)
  PreparedBy (Err outcome) n count y supply f p =
      IsSender y.sender supply.sender × (y.pause ≡ p) × EndsFilled outcome n count y f
      × SaysRightly outcome y

  -- the window was filled for the next link, or the upload ends
  pub record Prepares (result : Result (Unit {0}) (Outcome X)) (n : ℕ) (x : Filling F P)
      (supply : Supply) (f : F) (p : P) : Type 0 where
    pub events : List FillEvent
    pub after : Filling F P
    pub went : Chain (FillStep feed pause) events x after
    pub by : PreparedBy result n (length events) after supply f p

module _ {F P D R W X : Type 0} (feed : FeedGhosts F X) (pause : PauseGhosts P)
    (dial : DialGhosts D R W) (reader : Reader R) (writer : Writer W) (most : Option ℕ) where
  -- why an upload ends here, with its feed
  abbrev pub EndsUpload : Outcome X → List UploadEvent → Course F P D R W → F → Type 0
  EndsUpload outcomes.Done events x f =
      EndsFilled feed pause most outcomes.Done x.fruitless (length events) x.filling f
  EndsUpload (outcomes.Refused n v) events x f =
      EndsFilled feed pause most (outcomes.Refused n v) x.fruitless (length events) x.filling f
  EndsUpload (outcomes.Conflict n) events x f =
      LastStop events (stops.Conflict n) × (x.filling.feed ≡ f)
  EndsUpload (outcomes.TooFar n) events x f =
      LastStop events (stops.TooFar n) × (x.filling.feed ≡ f)
  EndsUpload (outcomes.NotOffered error) events x f =
      EndsFilled feed pause most (outcomes.NotOffered error) x.fruitless (length events) x.filling f
  EndsUpload outcomes.Fruitless events x f =
      EndsFilled feed pause most outcomes.Fruitless x.fruitless (length events) x.filling f
  EndsUpload (outcomes.Feed fault) events x f =
      EndsFilled feed pause most (outcomes.Feed fault) x.fruitless (length events) x.filling f
  EndsUpload outcomes.Memory events x f = Unit {0}
  EndsUpload outcomes.Limit events x f =
      EndsFilled feed pause most outcomes.Limit x.fruitless (length events) x.filling f

  -- a link may be asked for now, after the wait that is due
  pub record DialsNext (x : Course F P D R W) (supply : Supply) (f : F) (p : P) (d : D)
      : Type 0 where
    pub filling : IsFilling (record x.filling { pause = p }) supply f p
    pub waits : BacksOff feed pause dial reader writer most x p
    pub may : MayDial feed pause dial reader writer most x
    pub dial_is : x.dial ≡ d

  -- the upload has ended so
  pub record EndsCourse (outcome : Outcome X) (events : List UploadEvent) (y : Course F P D R W)
      (supply : Supply) (f : F) (p : P) (d : D) : Type 0 where
    pub sender_is : IsSender y.filling.sender supply.sender
    pub paused : y.filling.pause ≡ p
    pub dial_is : y.dial ≡ d
    pub ends : EndsUpload outcome events y f
    pub rightly : SaysRightly feed pause most outcome y.filling
    pub finals : final_stops events ≡ named_stop outcome

  -- it goes on after a link
  pub record GoesAfterLink (x y : Course F P D R W) (supply : Supply) (f : F) (p : P) (d : D)
      : Type 0 where
    pub filling : IsFilling y.filling supply f p
    pub free : y.line ≡ None
    pub dial_is : y.dial ≡ d
    pub dials : y.dials ≡ suc x.dials
    pub fruitless : y.fruitless
        ≡ fruitless_after (settled x.filling.sender) (settled y.filling.sender) x.fruitless

  abbrev pub MadeBy : Result (Unit {0}) (Outcome X) → List UploadEvent → Course F P D R W →
      Course F P D R W → Supply → F → P → D → Type 0
  MadeBy (Ok u) events x y supply f p d =
      GoesAfterLink x y supply f p d × (1 ≤ length events) × (final_stops events ≡ [])
  MadeBy (Err outcome) events x y supply f p d = EndsCourse outcome events y supply f p d

  -- a link was asked for, and used if it was made
  pub record LinkAsked (result : Result (Unit {0}) (Outcome X)) (x : Course F P D R W)
      (supply : Supply) (f : F) (p : P) (d : D) : Type 0 where
    pub events : List UploadEvent
    pub after : Course F P D R W
    pub went : Chain (CourseStep feed pause dial reader writer most) events x after
    pub by : MadeBy result events x after supply f p d

-- how an upload ends because of why a link was left, if it does
abbrev pub end_of_link : {X : Type 0} → LinkEnd → Result (Unit {0}) (Outcome X)
end_of_link (ends.Stopped (stops.Conflict n)) = Err (outcomes.Conflict n)
end_of_link (ends.Stopped (stops.TooFar n)) = Err (outcomes.TooFar n)
end_of_link (ends.Stopped stops.TableFull) = Ok tt
end_of_link (ends.Stopped stops.NoRoom) = Ok tt
end_of_link (ends.Stopped stops.DelayedStore) = Ok tt
end_of_link (ends.Stopped stops.BadFrame) = Ok tt
end_of_link ends.Ended = Ok tt
end_of_link (ends.Broken fault) = Ok tt
end_of_link ends.Refused = Ok tt
end_of_link ends.Done = Ok tt

-- before the first link nothing is waited, before each other what is due
abbrev pub WaitsBefore : {P : Type 0} → PauseGhosts P → ℕ → ℕ → P → P → Type 0
WaitsBefore pause links fruitless p p' =
    ((links ≡ 0) × (p' ≡ p)) ⊎ ((1 ≤ links) × pause.waits p (backoff fruitless) p')
