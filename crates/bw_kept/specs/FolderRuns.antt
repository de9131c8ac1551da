-- The definitions' turns on the book of a folder, of whose names only some are in a table.
use Rattle.std.specs.Prelude.{◌≡◌, ◌⊎◌, ◌==◌, ◌&&◌, ℕ, Bool, true, false, Option, None, is_some, nat_lt}
use Rattle.std.specs.Prelude.{IsTrue, IsFalse, List, [], ◌∷◌, fold}
use Rattle.std.specs.Option.{option_map_or}
use Rattle.bw_model.specs.Counts.{Counts}
use Rattle.bw_model.specs.Wire.{Frame, Says, Asks, Bye}
use Rattle.bw_model.specs.Replies.{Reply, Noticed, Next, DelayedStore}
use Rattle.bw_model.specs.Book.{Log, Book, log_of, is_known}
use Rattle.bw_model.specs.Turn.{Faults, turn_by, with_change, is_full}
use Rattle.bw_model.specs.CountedTurn.{IsWithoutRoom, is_pending}
use Rattle.bw_session.specs.Books.{count_waiting}
use Rattle.bw_exchange.specs.AnsweredFrames.{Answered}

-- the name that a frame is of
abbrev pub name_of_frame : Frame → List ℕ
name_of_frame (Says m) = m.name
name_of_frame (Asks name n) = name
name_of_frame Bye = []

-- the replies to a frame, and its name's log if it changes, where it is said whether a further name
-- fits
abbrev pub turn_where : Bool → (List ℕ → Bool) → Book → Frame → Faults →
    List Reply × Option Log
turn_where full existed book (Says m) faults =
    turn_by (existed m.name) (is_known book m.name) full (log_of book m.name) m faults
turn_where full existed book (Asks name n) faults =
    (Noticed name n Next (log_of book name).done ∷ [], None)
turn_where full existed book Bye faults = ([], None)

-- the turn stops short of what it might do: a call failed
abbrev pub stops_where : Bool → (List ℕ → Bool) → Book → Frame → Faults → Bool
stops_where full existed book f faults =
    option_map_or is_pending (turn_where full existed book f faults).1 false

-- A frame is served: it is answered like this by the definitions, with some faults, and this is the
-- book then. That is IsTurn, but for who says whether a further name fits.
pub record ServesFrame (full : Bool) (existed : List ℕ → Bool) (before after : ℕ) (book : Book)
    (f : Frame) (replies : List Reply) (later : Book) : Type 0 where
  pub faults : Faults
  pub answered : (turn_where full existed book f faults).0 ≡ replies
  pub left : with_change book (name_of_frame f) (turn_where full existed book f faults).1 ≡ later
  -- a growth is refused only if NoRoom is the answer
  pub room : IsTrue faults.refused → IsWithoutRoom book f replies
  -- the count rises exactly if draining stops short
  pub count : Counts before after (stops_where full existed book f faults)
  pub stop : IsFalse (stops_where full existed book f faults) → faults.stop ≡ None

-- the notice that a frame is put off
abbrev pub delay_of : Frame → List Reply
delay_of (Says m) = Noticed m.name m.number DelayedStore 0 ∷ []
delay_of (Asks name n) = Noticed name n DelayedStore 0 ∷ []
delay_of Bye = []

-- nothing of the log waits, and something is done: its name may leave the table
abbrev pub may_leave : Log → Bool
may_leave log = (count_waiting log == 0) && nat_lt 0 log.done

-- A table is full, and none of its names may leave it.
pub record HasNoPlace (table : Book) : Type 0 where
  pub full : IsTrue (is_full table)
  pub none : (name : List ℕ) → IsTrue (is_known table name) → IsFalse (may_leave (log_of table name))

-- the last place has a request: no log of a server has places after it
abbrev pub ends_with_request : Log → Bool
ends_with_request log = fold (λ so_far place. is_some place) true log.admitted

-- the frames of a run, each served or put off
abbrev pub IsFolderRun : (List ℕ → Bool) → ℕ → ℕ → Book → List Answered → Book → Type 0
IsFolderRun existed before after book [] later = (after ≡ before) × (later ≡ book)
IsFolderRun existed before after book (a ∷ rest) later =
    (count : ℕ) × (mid : Book)
    × (((full : Bool) × ServesFrame full existed before count book a.frame a.replies mid)
    ⊎ ((a.replies ≡ delay_of a.frame) × (mid ≡ book)))
    × IsFolderRun existed count after mid rest later
