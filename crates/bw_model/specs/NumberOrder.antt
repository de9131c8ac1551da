-- Runs in which each message's number is at most the least that its name lacked, and what they
-- leave.
use Rattle.std.specs.Prelude.{◌≡◌, ◌≤◌, ℕ, Bool, true, false, IsFalse, Option, List, [], ◌∷◌, ◌++◌}
use Rattle.std.specs.Prelude.{fold, map, if◌then◌else◌}
use Rattle.std.specs.List.{list_any}
use Rattle.std.specs.Str.{bytes_eq}
use Rattle.bw_model.specs.Bytes.{put, first_free}
use Rattle.bw_model.specs.Take.{Request}
use Rattle.bw_model.specs.Wire.{Frame, Says, Asks, Bye}
use Rattle.bw_model.specs.Replies.{Reply, Notice, NoRoom, DelayedStore, is_notice}
use Rattle.bw_model.specs.Book.{log_of}
use Rattle.bw_model.specs.Turn.{Faults, Turn, run, book_after}
use Rattle.bw_model.specs.CountedTurn.{is_pending}

-- the numbers that came under a name, with one more frame
abbrev pub with_frame : List ℕ → List (Option Request) → Frame → List (Option Request)
with_frame name received (Says m) = if bytes_eq m.name name then put received m.number m.request else received
with_frame name received (Asks x n) = received
with_frame name received Bye = received

-- the numbers that came under a name
abbrev pub received_under : List ℕ → List Frame → List (Option Request)
received_under name frames = fold (with_frame name) [] frames

-- a message's number is at most the least that did not come under its name yet
abbrev pub IsNextOrReceived : List Frame → Frame → Type 0
IsNextOrReceived before (Says m) = m.number ≤ first_free (received_under m.name before)
IsNextOrReceived before (Asks name n) = Unit {0}
IsNextOrReceived before Bye = Unit {0}

-- this holds of each frame, after all that came before it
abbrev pub AreInOrder : List Frame → List Frame → Type 0
AreInOrder before [] = Unit {0}
AreInOrder before (f ∷ frames) = IsNextOrReceived before f × AreInOrder (before ++ f ∷ []) frames

-- the notice reports a failure: lack of memory, or of the store
abbrev pub is_out_of_memory : Notice → Bool
is_out_of_memory NoRoom = true
is_out_of_memory DelayedStore = true
is_out_of_memory _ = false

-- the reply is one of these notices
abbrev pub reports_failure : Reply → Bool
reports_failure = is_notice is_out_of_memory

-- the turn was answered with one of these notices
abbrev pub lacks : Turn → Bool
lacks t = list_any reports_failure t.replies

-- A run in order in which no failure was reported leaves nothing pending.
abbrev pub OrderLeavesNothingPending : Type 0
OrderLeavesNothingPending =
    (existed : List ℕ → Bool) (ts : List (Frame × Faults)) → AreInOrder [] (map (λ t. t.0) ts) →
    IsFalse (list_any lacks (run existed [] ts)) → (name : List ℕ) →
    is_pending (log_of (book_after existed [] ts) name) ≡ false
