-- The requests of headerless samples that are still to come, while the samples are written.
use Rattle.std.specs.Prelude.{◌≡◌, ℕ, ◌+◌, ◌-◌, ◌*◌, ◌/◌, ◌%◌, ◌^◌, ◌<◌, ◌≤◌, ◌==◌, ◌⊎◌, min}
use Rattle.std.specs.Prelude.{if◌then◌else◌, List, [], ◌∷◌, ◌++◌, length, take, drop, Bool, true, false}
use Rattle.std.specs.Prelude.{Some, Result, Ok, Err}
use Rattle.bw_model.specs.Take.{Request, Open, Block, Close, block_align}
use Rattle.bw_model.specs.Wire.{is_request}
use Rattle.bw_stream.specs.Moves.{one_more}
use Rattle.bw_plan.specs.Recordings.{Outline}
use Rattle.bw_plan.specs.Plans.{block_requests}
use Rattle.bw_plan.specs.Progress.{fields_after, next_step_of}
use Rattle.bw_ports.specs.declared.followed.Followed.{Ghosts as FollowedGhosts}
use Rattle.bw_send_file.specs.declared.follow_fault.PcmFault.{PcmFault}
use Rattle.bw_send_file.specs.declared.follow_fault.PcmFault.TheVariants as faults
use Rattle.bw_send_file.specs.declared.followed_requests.NextRequest.{NextRequest}
use Rattle.bw_send_file.specs.declared.followed_requests.NextRequest.TheVariants as nexts
use Rattle.bw_send_file.specs.declared.followed_state.PcmStep.{PcmStep}
use Rattle.bw_send_file.specs.declared.followed_state.PcmStep.TheVariants as steps
use Rattle.bw_send_file.specs.declared.followed_state.PcmRequests.{PcmRequests}

-- how far the requests have been given
pub record PcmProgress : Type 0 where
  -- all but the samples
  pub outline : Outline
  -- how many frames a block has
  pub frames : ℕ
  -- how many frames were given
  pub given : ℕ

-- how many bytes a frame has, and a block
abbrev pub align_of : PcmProgress → ℕ
align_of p = block_align p.outline.format

abbrev pub size_of : PcmProgress → ℕ
size_of p = p.frames * align_of p

-- the whole frames of these samples
abbrev pub whole_frames : ℕ → List ℕ → List ℕ
whole_frames align s = take (length s - length s % align) s

-- CLOSE, after so many frames and so many bytes, unless these end inside a frame
abbrev pub close_after : ℕ → ℕ → ℕ → List Request
close_after given align len = if len % align == 0 then Close (given + len / align) ∷ [] else []

-- the requests of these samples: whole frames in blocks, and CLOSE
abbrev pub sample_requests : PcmProgress → List ℕ → List Request
sample_requests p s =
    block_requests (size_of p) (whole_frames (align_of p) s)
    ++ close_after p.given (align_of p) (length s)

-- OPEN, of an outline
abbrev pub open_of : Outline → Request
open_of r = Open r.format r.history

-- the requests from a step on, of these samples
abbrev pub requests_of_step : PcmProgress → List ℕ → PcmStep → List Request
requests_of_step p s steps.Open =
    Open p.outline.format p.outline.history ∷ fields_after 0 p.outline.values ++ sample_requests p s
requests_of_step p s (steps.Fields after) = fields_after after p.outline.values ++ sample_requests p s
requests_of_step p s steps.Samples = sample_requests p s
requests_of_step p s steps.End = []

-- of these requests the first is given, or there are none; else all of them are still to come
abbrev pub GivesOf : List Request → Result NextRequest PcmFault → (List Request → Type 0) → Type 0
GivesOf requests (Ok (nexts.Request r)) left' =
    (rest : List Request) × (requests ≡ r ∷ rest) × left' rest
GivesOf requests (Ok nexts.NotYet) left' = left' requests
GivesOf requests (Ok nexts.End) left' = (requests ≡ []) × left' []
GivesOf requests (Err fault) left' = left' requests

-- a read failed
abbrev pub is_unread : {X : Type 0} → Result X PcmFault → Bool
is_unread (Ok x) = false
is_unread (Err (faults.Unread place)) = true
is_unread (Err (faults.PartFrame place)) = false
is_unread (Err (faults.Empty place)) = false
is_unread (Err faults.TooLong) = false
is_unread (Err faults.Unsendable) = false
is_unread (Err faults.Memory) = false

module _ {F : Type 0} where
  -- how far they have been given
  abbrev pub progress_of : PcmRequests F → PcmProgress
  progress_of x = record { outline = x.outline; frames = x.frames; given = x.given }

  -- which request comes next
  abbrev pub pcm_step : PcmRequests F → PcmStep
  pcm_step x = x.step

module _ {F : Type 0} (followed : FollowedGhosts F) where
  -- these requests are still to come: those of the samples that are held and of those to be read
  abbrev pub RequestsLeft : PcmRequests F → List Request → Type 0
  RequestsLeft x requests =
      (rest : List ℕ) × (followed.to_come x.file ≡ Some rest)
      × (requests ≡ requests_of_step (progress_of x) (x.samples.held ++ rest) x.step)

  -- what is given from a step on
  abbrev pub GivesFrom : PcmStep → Result NextRequest PcmFault → PcmRequests F → PcmRequests F →
      Type 0
  GivesFrom step result x y =
      (rest : List ℕ) → followed.to_come x.file ≡ Some rest →
      GivesOf (requests_of_step (progress_of x) (x.samples.held ++ rest) step) result (RequestsLeft y)

  -- what is given, whichever requests are still to come
  abbrev pub GivesNextRequest : Result NextRequest PcmFault → PcmRequests F → PcmRequests F → Type 0
  GivesNextRequest result x y =
      (requests : List Request) → RequestsLeft x requests → GivesOf requests result (RequestsLeft y)

  -- each failed call of the file is returned
  abbrev pub CountsUnread : {X : Type 0} → Result X PcmFault → PcmRequests F → PcmRequests F → Type 0
  CountsUnread result x y = followed.failures y.file
      ≡ (if is_unread result then one_more (followed.failures x.file) else followed.failures x.file)

  -- the file is complete, and ends inside the frame at this place
  pub record IsCutAt (place : ℕ) (x y : PcmRequests F) : Type 0 where
    pub at : place ≡ y.place
    pub some : 0 < length y.samples.held
    pub part : length y.samples.held < align_of (progress_of y)
    pub complete : followed.is_complete y.file ≡ true
    pub none : (xs : List ℕ) → followed.to_come x.file ≡ Some xs → followed.to_come y.file ≡ Some []

  -- the file is complete, and has nothing from the place of its first sample on
  pub record IsEmptyAt (place : ℕ) (x y : PcmRequests F) : Type 0 where
    pub at : place ≡ y.place
    pub none : length y.samples.held ≡ 0
    pub complete : followed.is_complete y.file ≡ true
    pub no_more : (xs : List ℕ) → followed.to_come x.file ≡ Some xs → followed.to_come y.file
        ≡ Some []

  -- whether a whole frame was read, and why there never will be one
  abbrev pub ReachesFrame : Result Bool PcmFault → PcmRequests F → PcmRequests F → Type 0
  ReachesFrame (Ok true) x y = align_of (progress_of y) ≤ length y.samples.held
  ReachesFrame (Ok false) x y = length y.samples.held < align_of (progress_of y)
  ReachesFrame (Err (faults.Unread place)) x y =
      place ≡ min (y.place + length y.samples.held) (2 ^ 64 - 1)
  ReachesFrame (Err (faults.PartFrame place)) x y = IsCutAt place x y
  ReachesFrame (Err (faults.Empty place)) x y = IsEmptyAt place x y
  ReachesFrame (Err faults.TooLong) x y = ⊥
  ReachesFrame (Err faults.Unsendable) x y = ⊥
  ReachesFrame (Err faults.Memory) x y = ⊥

  -- CLOSE, of as many frames as were given: the file is complete, and nothing of it is left
  pub record ClosesSamples (r : Request) (y : PcmRequests F) : Type 0 where
    pub close : r ≡ Close y.given
    pub none : length y.samples.held ≡ 0
    pub complete : followed.is_complete y.file ≡ true

  -- no message carries the next request from a step on
  abbrev pub IsUnsendable : PcmStep → PcmRequests F → Type 0
  IsUnsendable step x =
      (r : Request) × (is_request r ≡ false)
      × ((rest : List ℕ) → followed.to_come x.file ≡ Some rest →
      next_step_of (requests_of_step (progress_of x) (x.samples.held ++ rest) step) ≡ Some r)

  -- OPEN is given only where a whole frame was read
  abbrev pub HasFrameFor : PcmStep → PcmRequests F → Type 0
  HasFrameFor steps.Open y = align_of (progress_of y) ≤ length y.samples.held
  HasFrameFor (steps.Fields after) y = Unit {0}
  HasFrameFor steps.Samples y = Unit {0}
  HasFrameFor steps.End y = Unit {0}

  -- nothing is given yet: before OPEN no whole frame was read, and after it no whole block
  abbrev pub Awaits : PcmStep → PcmRequests F → Type 0
  Awaits steps.Open y = (length y.samples.held < align_of (progress_of y)) × (y.step ≡ steps.Open)
  Awaits (steps.Fields after) y = (length y.samples.held < y.samples.size) × (y.step ≡ steps.Samples)
  Awaits steps.Samples y = (length y.samples.held < y.samples.size) × (y.step ≡ steps.Samples)
  Awaits steps.End y = ⊥

  -- the fault of a file without samples comes in the place of OPEN
  abbrev pub IsEmptyFor : PcmStep → ℕ → PcmRequests F → PcmRequests F → Type 0
  IsEmptyFor steps.Open place x y = IsEmptyAt place x y
  IsEmptyFor (steps.Fields after) place x y = ⊥
  IsEmptyFor steps.Samples place x y = ⊥
  IsEmptyFor steps.End place x y = ⊥

  -- when each fault comes; before a whole frame is written nothing is given, and then before a whole
  -- block is, as long as the file isn't complete; and only CLOSE is the last request
  abbrev pub ComesTo : PcmStep → Result NextRequest PcmFault → PcmRequests F → PcmRequests F → Type 0
  ComesTo step (Ok (nexts.Request r)) x y =
      (y.step ≡ steps.End → ClosesSamples r y) × HasFrameFor step y
  ComesTo step (Ok nexts.NotYet) x y = Awaits step y
  ComesTo step (Ok nexts.End) x y = (x.step ≡ steps.End) × (y.step ≡ steps.End)
  ComesTo step (Err (faults.Unread place)) x y = place ≡ min (y.place + length y.samples.held) (2 ^ 64 - 1)
  ComesTo step (Err (faults.PartFrame place)) x y = IsCutAt place x y
  ComesTo step (Err (faults.Empty place)) x y = IsEmptyFor step place x y
  ComesTo step (Err faults.TooLong) x y =
      (2 ^ 64 ≤ y.place + length y.samples.held) ⊎ (2 ^ 64 ≤ y.given + length y.samples.held)
  ComesTo step (Err faults.Unsendable) x y = IsUnsendable step x
  ComesTo step (Err faults.Memory) x y = Unit {0}

  -- when each fault comes, and what is said where no request is given
  abbrev pub NextComesTo : Result NextRequest PcmFault → PcmRequests F → PcmRequests F → Type 0
  NextComesTo result x y = ComesTo x.step result x y

module _ {F : Type 0} where
  -- nothing but what is held of the samples, and the file, is another
  pub record KeepsAllButSamples (x y : PcmRequests F) : Type 0 where
    pub outline : y.outline ≡ x.outline
    pub frames : y.frames ≡ x.frames
    pub given : y.given ≡ x.given
    pub place : y.place ≡ x.place
    pub step : y.step ≡ x.step

  -- so many bytes of samples were given
  pub record TakesSamples (count : ℕ) (x y : PcmRequests F) : Type 0 where
    pub outline : y.outline ≡ x.outline
    pub frames : y.frames ≡ x.frames
    pub samples : y.samples ≡ record x.samples { held = drop count x.samples.held }
    pub given : y.given ≡ x.given + count / block_align x.outline.format
    pub step : y.step ≡ x.step
    pub file : y.file ≡ x.file

  -- why no block of so many bytes is given
  abbrev pub RefusesBlock : ℕ → PcmFault → PcmRequests F → Type 0
  RefusesBlock count (faults.Unread place) x = ⊥
  RefusesBlock count (faults.PartFrame place) x = ⊥
  RefusesBlock count (faults.Empty place) x = ⊥
  RefusesBlock count faults.TooLong x =
      (2 ^ 64 ≤ x.place + count) ⊎ (2 ^ 64 ≤ x.given + count)
  RefusesBlock count faults.Unsendable x = is_request (Block (take count x.samples.held)) ≡ false
  RefusesBlock count faults.Memory x = Unit {0}

-- a block of these bytes comes next
abbrev pub IsBlockOf : List ℕ → NextRequest → Type 0
IsBlockOf bytes (nexts.Request r) = r ≡ Block bytes
IsBlockOf bytes nexts.NotYet = ⊥
IsBlockOf bytes nexts.End = ⊥

-- why a request isn't copied
abbrev pub RefusesCopying : Request → PcmFault → Type 0
RefusesCopying r (faults.Unread place) = ⊥
RefusesCopying r (faults.PartFrame place) = ⊥
RefusesCopying r (faults.Empty place) = ⊥
RefusesCopying r faults.TooLong = ⊥
RefusesCopying r faults.Unsendable = is_request r ≡ false
RefusesCopying r faults.Memory = Unit {0}
