-- A turn with the store's count of failures, and what follows from it.
use Rattle.std.specs.Prelude.{◌≡◌, ℕ, suc, ◌+◌, ◌<◌, ◌≤◌, Bool, true, false, not, ◌&&◌, ◌||◌}
use Rattle.std.specs.Prelude.{IsTrue, IsFalse, is_some, Option, None, List, length, nat_le}
use Rattle.std.specs.Prelude.{if◌then◌else◌}
use Rattle.std.specs.Option.{option_map_or}
use Rattle.std.specs.List.{list_any}
use Rattle.bw_model.specs.Bytes.{at}
use Rattle.bw_model.specs.Counts.{Counts, last_count}
use Rattle.bw_model.specs.Wire.{Message, Frame, Says, Asks, Bye}
use Rattle.bw_model.specs.Replies.{Reply, Notice, NoRoom, DelayedStore, is_notice}
use Rattle.bw_model.specs.Book.{Log, Book, log_of, is_known, with_log}
use Rattle.bw_model.specs.Turn.{Faults, turn, turn_by, window, is_admissible, admitted_after, notice}
use Rattle.bw_model.specs.Turn.{is_full, is_turned_away}
use Rattle.bw_model.specs.BookRules.{IsBook}

-- an admitted number waits for its verdict, and all below it have theirs
abbrev pub is_pending : Log → Bool
is_pending log = is_some (at log.admitted log.done)

-- the log that a frame's turn leaves under its name, if the frame is a message that is served
abbrev pub log_after_frame : (List ℕ → Bool) → Book → Frame → Faults → Option Log
log_after_frame existed book (Says m) faults =
    (turn_by (existed m.name) (is_known book m.name) (is_full book) (log_of book m.name) m faults).1
log_after_frame existed book (Asks name n) faults = None
log_after_frame existed book Bye faults = None

-- a message is served, and draining stops before the run's end
abbrev pub stops_short : (List ℕ → Bool) → Book → Frame → Faults → Bool
stops_short existed book f faults = option_map_or is_pending (log_after_frame existed book f faults) false

-- a message whose number would be admitted is answered NoRoom
abbrev pub IsWithoutRoom : Book → Frame → List Reply → Type 0
IsWithoutRoom book (Says m) replies =
    let log = log_of book m.name in
    IsTrue (is_admissible log m.number) × (replies ≡ notice m NoRoom log.done)
IsWithoutRoom book (Asks name n) replies = ⊥
IsWithoutRoom book Bye replies = ⊥

-- A server whose store's failures were counted before and after may answer like this, and continue
-- with this book.
pub record IsTurn (existed : List ℕ → Bool) (before after : ℕ) (book : Book) (f : Frame)
    (replies : List Reply) (later : Book) : Type 0 where
  pub faults : Faults
  pub answered : (turn existed book f faults).0 ≡ replies
  pub left : (turn existed book f faults).1 ≡ later
  -- a growth is refused only if NoRoom is the answer
  pub room : IsTrue faults.refused → IsWithoutRoom book f replies
  -- the count rises exactly if draining stops short
  pub count : Counts before after (stops_short existed book f faults)
  pub stop : IsFalse (stops_short existed book f faults) → faults.stop ≡ None

-- the book after a message, as the replies and the number of those done then determine it
abbrev pub book_reported : Book → Message → List Reply → ℕ → Book
book_reported book m replies done =
    if (not (is_known book m.name) && nat_le window m.number) || is_turned_away replies then book
    else with_log book m.name
    (record { admitted = admitted_after (log_of book m.name) m; done = done })

-- the notice of a failed store
abbrev pub is_delay : Notice → Bool
is_delay DelayedStore = true
is_delay _ = false

-- the reply says that the store failed
abbrev pub is_delayed : Reply → Bool
is_delayed = is_notice is_delay

-- A turn gives at most 17 replies.
abbrev pub TurnsGiveFewReplies : Type 0
TurnsGiveFewReplies = (existed : List ℕ → Bool) (book : Book) (f : Frame) (faults : Faults) →
    IsBook book → length (turn existed book f faults).0 ≤ suc window

-- The later book follows from the earlier one, the message, the replies and the number of those
-- done then.
abbrev pub RepliesReportTheBook : Type 0
RepliesReportTheBook = (existed : List ℕ → Bool) (book : Book) (m : Message) (faults : Faults) →
    let x = turn existed book (Says m) faults in
    x.1 ≡ book_reported book m x.0 (log_of x.1 m.name).done

-- DelayedStore is answered only if a store call failed in this very turn.
abbrev pub DelaysAreCounted : Type 0
DelaysAreCounted =
    (existed : List ℕ →
    Bool) (before after : ℕ) (book : Book) (f : Frame) (replies : List Reply) (later : Book) →
    IsTurn existed before after book f replies later → before < last_count →
    IsTrue (list_any is_delayed replies) → after ≡ before + 1

-- If no call failed, a message that is served leaves nothing pending under its name.
abbrev pub QuietTurnsDrain : Type 0
QuietTurnsDrain =
    (existed : List ℕ →
    Bool) (before : ℕ) (book : Book) (m : Message) (replies : List Reply) (later : Book) →
    IsTurn existed before before book (Says m) replies later → before < last_count →
    IsFalse (is_turned_away replies) → is_pending (log_of later m.name) ≡ false
