-- A sender, the network and servers over a folder that follow one another, which stop within turns too.
use Rattle.std.specs.Prelude.{◌≡◌, ◌⊎◌, ℕ, Bool, false, Some, List, [], ◌∷◌, ◌++◌, slice_get}
use Rattle.std.specs.List.{AllByRecursion}
use Rattle.bw_model.specs.Wire.{Frame, Says, Asks, Bye}
use Rattle.bw_model.specs.Replies.{Reply}
use Rattle.bw_model.specs.Book.{Book}
use Rattle.bw_model.specs.Turn.{Faults, is_of}
use Rattle.bw_model.specs.World.{World, Event, IsFaithful, happens, new_world}
use Rattle.bw_journal.specs.Stops.{AnswersStay, cut_book}
use Rattle.bw_exchange.specs.AnsweredFrames.{Answered, replies_of}
use Rattle.bw_kept.specs.FolderRuns.{ServesFrame, delay_of}
use Rattle.bw_kept.specs.LeftFolders.{LeavesAtLeast}

-- A frame's turn on a folder's book: it is served, or put off.
abbrev pub TurnsInFolder : (List ℕ → Bool) → Book → Frame → List Reply → Book → Type 0
TurnsInFolder existed book f replies later =
    ((before : ℕ) × (after : ℕ) × (full : Bool)
    × ServesFrame full existed before after book f replies later)
    ⊎ ((replies ≡ delay_of f) × (later ≡ book))

-- frames one after another
abbrev pub RunsInFolder : (List ℕ → Bool) → Book → List Answered → Book → Type 0
RunsInFolder existed book [] later = later ≡ book
RunsInFolder existed book (a ∷ rest) later = (mid : Book)
    × TurnsInFolder existed book a.frame a.replies mid × RunsInFolder existed mid rest later

-- what happens next in a world whose server may stop
pub data WorldStep : Type 0 where
  -- an event, with the faults of its turn, if it has one
  Happens : Event → Faults → WorldStep
  -- these frames come to a server over a folder, which commits them, replies so and holds this book then
  Answers : List Answered → Book → WorldStep
  -- The server stops. Since its last commit it answered these frames, of which no reply left; it held
  -- the first book then, and leaves the second.
  Stops : List Answered → Book → Book → WorldStep
  -- another server starts over what was left
  Starts : WorldStep

-- The world after a step.
abbrev pub after_world_step : (List ℕ → Bool) → World → WorldStep → World
after_world_step existed w (Happens e faults) = happens existed w e faults
after_world_step existed w (Answers answered later) =
    record w { book = later; replies = w.replies ++ replies_of answered }
after_world_step existed w (Stops answered later left) = record w { book = left }
after_world_step existed w Starts = record w { book = cut_book w.book }

-- the frame may reach the server: the sender sent it, or it is another recorder's, or an ask
abbrev pub MayCome : World → Frame → Type 0
MayCome w (Says m) =
    ((k : ℕ) × (slice_get w.sent k ≡ Some m)) ⊎ (is_of w.sender.name (Says m) ≡ false)
MayCome w (Asks name n) = Unit {0}
MayCome w Bye = Unit {0}

-- each of these may
abbrev pub MayComeEach : World → List Answered → Type 0
MayComeEach w answered = AllByRecursion (λ a. MayCome w a.frame) answered

-- The step may be the next. A server that stops leaves the first numbers of its book: at least those
-- that were done at its last commit, and at most one that waits of a name beside all.
abbrev pub IsNextStep : (List ℕ → Bool) → World → WorldStep → Type 0
IsNextStep existed w (Happens e faults) = Unit {0}
IsNextStep existed w (Answers answered later) =
    MayComeEach w answered × RunsInFolder existed w.book answered later
IsNextStep existed w (Stops answered later left) = MayComeEach w answered
    × RunsInFolder existed w.book answered later × LeavesAtLeast w.book later left
IsNextStep existed w Starts = Unit {0}

-- by these steps one world follows from another
abbrev pub WorldStepsTo : (List ℕ → Bool) → World → List WorldStep → World → Type 0
WorldStepsTo existed w [] later = later ≡ w
WorldStepsTo existed w (s ∷ ss) later =
    IsNextStep existed w s × WorldStepsTo existed (after_world_step existed w s) ss later

-- Whenever servers stop, within turns too, however often: the sender counts only what the take has, and
-- each verdict that was ever written for its name is that of a done number.
abbrev pub StoppedWorldsAreFaithful : Type 0
StoppedWorldsAreFaithful = (existed : List ℕ → Bool) (name : List ℕ) (steps : List WorldStep)
    (later : World) → WorldStepsTo existed (new_world name) steps later →
    IsFaithful existed later × AnswersStay existed later
