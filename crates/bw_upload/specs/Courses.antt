-- An upload, one event after another.
use Rattle.std.specs.Prelude.{◌≡◌, ◌≢◌, ◌⊎◌, ℕ, suc, ◌≤◌, Bool, true, false, Option, Some, None}
use Rattle.std.specs.Prelude.{Ok, Err, nat_lt, if◌then◌else◌, length}
use Rattle.bw_model.specs.World.{Sender, settled, pending, refused}
use Rattle.bw_stream.specs.declared.sink.Sink.{Ghosts as Writer}
use Rattle.bw_stream.specs.declared.source.Source.{Ghosts as Reader}
use Rattle.bw_ports.specs.declared.dial.Dial.{Ghosts as DialGhosts}
use Rattle.bw_ports.specs.declared.dial.DialFault.{DialFault}
use Rattle.bw_ports.specs.declared.dial.Duplex.{Duplex}
use Rattle.bw_ports.specs.declared.pause.Pause.{Ghosts as PauseGhosts}
use Rattle.bw_upload.specs.Backoff.{backoff, is_spent}
use Rattle.bw_upload.specs.Conversations.{Conversing, Line, TalkEvent, TalkStep, LeavesBy, HeedsStop}
use Rattle.bw_upload.specs.Conversations.{new_line}
use Rattle.bw_upload.specs.WindowFills.{Filling, FillEvent, FillStep, is_done}
use Rattle.bw_upload.specs.declared.feed.Feed.{Ghosts as FeedGhosts}
use Rattle.bw_upload.specs.declared.observer.LinkEnd.{LinkEnd}
use Rattle.bw_upload.specs.declared.observer.LinkEnd.TheVariants as ends

-- how far an upload is
pub record Course (F P D R W : Type 0) : Type 0 where
  pub filling : Filling F P
  pub dial : D
  -- how many links were asked for
  pub dials : ℕ
  -- how many of the last of them in a row settled nothing
  pub fruitless : ℕ
  -- the link that is used, and how many numbers were settled when it was made
  pub line : Option (Line R W)
  pub before : ℕ

-- what may happen
pub data UploadEvent : Type 0 where
  Fills : FillEvent → UploadEvent
  -- a link was asked for, and none could be made
  Misses : UploadEvent
  -- it was made
  Makes : UploadEvent
  Talks : TalkEvent → UploadEvent
  -- it isn't used any more
  Leaves : LinkEnd → UploadEvent

-- how many links in a row settled nothing, after one before which so many numbers were settled
abbrev pub fruitless_after : ℕ → ℕ → ℕ → ℕ
fruitless_after before now n = if nat_lt before now then 0 else suc n

-- an upload that begins
abbrev pub starts : {F P D R W : Type 0} → Sender → F → P → D → Course F P D R W
starts s f p d = record {
  filling = record { sender = s; is_ended = false; feed = f; pause = p };
  dial = d;
  dials = 0;
  fruitless = 0;
  line = None;
  before = 0;
}

module _ {F P D R W X : Type 0} (feed : FeedGhosts F X) (pause : PauseGhosts P)
    (dial : DialGhosts D R W) (reader : Reader R) (writer : Writer W) (most : Option ℕ) where
  -- Before a link is asked for, it is waited, unless it is the first one.
  abbrev pub BacksOff : Course F P D R W → P → Type 0
  BacksOff x p' =
      ((x.dials ≡ 0) × (p' ≡ x.filling.pause))
      ⊎ ((1 ≤ x.dials) × pause.waits x.filling.pause (backoff x.fruitless) p')

  -- A link is asked for only if there is none, something is pending, nothing is refused, and not so
  -- many settled nothing as are allowed.
  pub record MayDial (x : Course F P D R W) : Type 0 where
    pub free : x.line ≡ None
    pub some : pending x.filling.sender 0 ≢ None
    pub welcome : length (refused x.filling.sender) ≡ 0
    pub left : is_spent most x.fruitless ≡ false

  pub record MissesLink (x y : Course F P D R W) : Type 0 where
    pub may : MayDial x
    pub waits : BacksOff x y.filling.pause
    pub fault : DialFault
    pub called : dial.dials x.dial (Err fault) y.dial
    pub is : y ≡ record x {
      filling = record x.filling { pause = y.filling.pause };
      dial = y.dial;
      dials = suc x.dials;
      fruitless = suc x.fruitless;
    }

  pub record MakesNextLink (x y : Course F P D R W) : Type 0 where
    pub may : MayDial x
    pub waits : BacksOff x y.filling.pause
    pub link : Duplex R W
    pub called : dial.dials x.dial (Ok link) y.dial
    pub is : y ≡ record x {
      filling = record x.filling { pause = y.filling.pause };
      dial = y.dial;
      dials = suc x.dials;
      line = Some (new_line link.reader link.writer);
      before = settled x.filling.sender;
    }

  pub record FillsWindow (e : FillEvent) (x y : Course F P D R W) : Type 0 where
    pub step : FillStep feed pause e x.filling y.filling
    pub is : y ≡ record x { filling = y.filling }

  pub record TalksOver (e : TalkEvent) (x y : Course F P D R W) : Type 0 where
    pub l : Line R W
    pub line : x.line ≡ Some l
    pub t : Conversing R W
    pub step : TalkStep reader writer e (record { sender = x.filling.sender; line = l }) t
    pub is : y ≡ record x {
      filling = record x.filling { sender = t.sender };
      line = Some t.line;
    }

  -- a link is parted from once all is done
  abbrev pub LeavesRightly : LinkEnd → Bool → Type 0
  LeavesRightly ends.Done done = done ≡ true
  LeavesRightly end done = Unit {0}

  pub record LeavesLink (end : LinkEnd) (x y : Course F P D R W) : Type 0 where
    pub l : Line R W
    pub line : x.line ≡ Some l
    pub why : LeavesBy reader writer end (record { sender = x.filling.sender; line = l })
    pub rightly : LeavesRightly end (is_done x.filling.sender x.filling.is_ended)
    pub heeds : HeedsStop end l.stop
    pub is : y ≡ record x {
      line = None;
      fruitless = fruitless_after x.before (settled x.filling.sender) x.fruitless;
    }

  -- a step from one state to the next
  abbrev pub CourseStep : UploadEvent → Course F P D R W → Course F P D R W → Type 0
  CourseStep (Fills e) x y = FillsWindow e x y
  CourseStep Misses x y = MissesLink x y
  CourseStep Makes x y = MakesNextLink x y
  CourseStep (Talks e) x y = TalksOver e x y
  CourseStep (Leaves end) x y = LeavesLink end x y
