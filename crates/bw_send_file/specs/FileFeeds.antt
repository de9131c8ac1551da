-- What the feed of a recording's file gives.
use Rattle.std.specs.Prelude.{◌≡◌, ◌≢◌, true, false, List, [], ◌∷◌, ℕ, Option, Some, Result, Ok, Err}
use Rattle.std.specs.Prelude.{IsTrue}
use Rattle.bw_model.specs.Take.{Request}
use Rattle.bw_model.specs.Wire.{is_request}
use Rattle.bw_model.specs.World.{is_close}
use Rattle.bw_inspect.specs.Faults.{is_failed_read}
use Rattle.bw_inspect.specs.declared.fault.InspectFault.{InspectFault}
use Rattle.bw_inspect.specs.declared.fault.InspectKind.TheVariants.{Read}
use Rattle.bw_inspect.specs.declared.fault.InspectKind.TheVariants.{Memory as NoMemory}
use Rattle.bw_ports.specs.declared.recording_files.FileStamp.{FileStamp}
use Rattle.bw_plan.specs.Progress.{Progress, next_step_of, remaining}
use Rattle.bw_recorder.specs.Puts.{Stands}
use Rattle.bw_upload.specs.declared.feed.Given.{Given}
use Rattle.bw_upload.specs.declared.feed.Given.TheVariants as gives
use Rattle.bw_send_file.specs.declared.fault.FeedFault.{FeedFault}
use Rattle.bw_send_file.specs.declared.fault.FeedFault.TheVariants.{Unread, Unstamped, Refused, Changed}
use Rattle.bw_send_file.specs.declared.fault.FeedFault.TheVariants.{Unsendable, Memory}

-- these are the requests to come of a plan whose reader has these bytes left
pub record AreToCome (left : Option (List ℕ)) (p : Progress) (requests : List Request) : Type 0 where
  pub bytes : List ℕ
  pub stands : Stands bytes p left
  pub are : requests ≡ remaining p bytes

-- the state of a feed: what its reader has left, its plan, the file's stamp, if it is reported, and the
-- stamp before the file was opened
pub record FeedState : Type 0 where
  pub left : Option (List ℕ)
  pub plan : Progress
  pub reported : Option FileStamp
  pub first : FileStamp

-- this is the next request, of whichever bytes the reader has left
abbrev pub IsNextRequest : FeedState → Request → Type 0
IsNextRequest x r = (b : List ℕ) → Stands b x.plan x.left → next_step_of (remaining x.plan b) ≡ Some r

-- This request is given, and the others are to come. A CLOSE is given only of a file that is as it
-- was.
pub record GivesRequestOf (x : FeedState) (r : Request) (y : FeedState) : Type 0 where
  pub next : (b : List ℕ) → Stands b x.plan x.left →
      (remaining x.plan b ≡ r ∷ remaining y.plan b) × Stands b y.plan y.left
  pub unchanged : is_close r ≡ true → (now : FileStamp) → x.reported ≡ Some now → now ≡ x.first
  pub reported : y.reported ≡ x.reported
  pub first : y.first ≡ x.first

-- the file has changed: it is another one at CLOSE, or it ended too early, which bytes that are
-- known don't do
abbrev pub HasChanged : FeedState → Type 0
HasChanged x = (now : FileStamp) → x.reported ≡ Some now → (b : List ℕ) → Stands b x.plan x.left →
    now ≢ x.first

-- The file is looked at again at the same path, and its stamp before it was opened is the one that
-- is reported of it.
pub record IsLookedAt (reported : Option FileStamp) (again : Option FileStamp) (first : FileStamp)
    : Type 0 where
  pub again_is : again ≡ reported
  pub first_is : (now : FileStamp) → reported ≡ Some now → first ≡ now

-- what the feed gives
abbrev pub GivesOfFile : FeedState → Result Given FeedFault → FeedState → Type 0
GivesOfFile x (Ok (gives.Request r)) y = GivesRequestOf x r y
GivesOfFile x (Ok gives.NotYet) y = ⊥
GivesOfFile x (Ok gives.End) y =
    (y ≡ x) × ((b : List ℕ) → Stands b x.plan x.left → remaining x.plan b ≡ [])
GivesOfFile x (Err (Unread f)) y = IsTrue (is_failed_read f.kind)
GivesOfFile x (Err (Unstamped error)) y = (r : Request) × IsNextRequest x r × (is_close r ≡ true)
GivesOfFile x (Err (Refused f)) y = ⊥
GivesOfFile x (Err Changed) y = HasChanged x
GivesOfFile x (Err Unsendable) y = (r : Request) × IsNextRequest x r × (is_request r ≡ false)
GivesOfFile x (Err Memory) y = Unit {0}

-- why a file that is looked at again isn't gone on with
abbrev pub IsLookFault : Option FileStamp → FileStamp → FeedFault → Type 0
IsLookFault reported first (Unread f) = ⊥
IsLookFault reported first (Unstamped error) = Unit {0}
IsLookFault reported first (Refused f) = ⊥
IsLookFault reported first Changed = (now : FileStamp) → reported ≡ Some now → now ≢ first
IsLookFault reported first Unsendable = ⊥
IsLookFault reported first Memory = ⊥

-- why a request isn't copied
abbrev pub RefusesCopy : Request → FeedFault → Type 0
RefusesCopy r (Unread f) = ⊥
RefusesCopy r (Unstamped error) = ⊥
RefusesCopy r (Refused f) = ⊥
RefusesCopy r Changed = ⊥
RefusesCopy r Unsendable = is_request r ≡ false
RefusesCopy r Memory = Unit {0}

-- why a file gives no more requests, where its plan has this fault
abbrev pub fault_reading_on : InspectFault → FeedFault
fault_reading_on f = elim f.kind [
  | Read ↦ Unread f
  | NoMemory ↦ Memory
  | _ ↦ Changed
]
