-- What is kept and held of a name, and what draining its next number leaves.
use Rattle.std.specs.Prelude.{◌≡◌, ℕ, ◌+◌, ◌≤◌, Bool, true, false, IsTrue, Option, Some, None}
use Rattle.std.specs.Prelude.{IsSome, is_some, List, length}
use Rattle.std.specs.List.{list_all}
use Rattle.bw_model.specs.Bytes.{at}
use Rattle.bw_model.specs.Take.{Parts, Verdict}
use Rattle.bw_model.specs.Wire.{Second, last_number}
use Rattle.bw_model.specs.ReadBack.{is_admitted}
use Rattle.bw_model.specs.Book.{Log, made, verdict_at}
use Rattle.bw_model.specs.Holds.{Kept, HoldsName, HasFile}
use Rattle.bw_model.specs.VerdictMeanings.{verdict_meaning}
use Rattle.bw_file.specs.GrowingFiles.{Growing}
use Rattle.bw_wire.specs.Bodies.{message_in}
use Rattle.bw_session.specs.Windows.{count_held}
use Rattle.bw_session.specs.Executions.{Touches}
use Rattle.bw_session.specs.KeptParts.{Part}
use Rattle.bw_session.specs.Prefixes.{StandsAhead}
use Rattle.bw_session.specs.NextNumbers.{with_done}
use Rattle.bw_session.specs.declared.borrowing.Tried.{Tried}
use Rattle.bw_session.specs.declared.borrowing.Tried.TheVariants as tries
use Rattle.bw_session.specs.declared.drains.Drained.{Drained}
use Rattle.bw_session.specs.declared.drains.Drained.TheVariants.{Idle, Done, Stopped}

-- How the parts of a name fit together, whatever was sent.
pub record Fits (g : Growing) (p : Parts) (done room places : ℕ)
    (window : List (Option (List ℕ))) : Type 0 where
  -- each held request can be stored, and its verdict kept, without memory
  pub storable : count_held window ≤ room
  pub keepable : count_held window ≤ places
  pub numbers : (i : ℕ) → IsSome (at window i) → done + i ≤ last_number Second
  -- a dirty file waits for another try of the first held request
  pub held : IsTrue g.dirty → IsSome (at window 0)
  pub again : IsTrue g.dirty → (body : List ℕ) → at window 0 ≡ Some body →
      Touches p (message_in body).request

-- what is kept of a name, in the definitions' words
abbrev pub kept_as : Parts → List (List ℕ × Verdict) → List (Option (List ℕ)) → Growing → Kept
kept_as p finished window g = record {
  state = p;
  finished = finished;
  held = window;
  has_made = g.made;
  dirty = g.dirty;
}

-- What an honest store has of a name: of one that existed what was there, else the take's file, or
-- what an earlier try of the next request may have left.
abbrev pub NameStands : Option (List ℕ) → Log → ℕ → Kept → Option (List ℕ) → Type 0
NameStands None log limit kept found =
    HasFile (made false log.admitted log.done) limit (at log.admitted log.done) kept found
NameStands (Some bytes) log limit kept found = (found ≡ Some bytes) × (kept.has_made ≡ false)

-- What is kept and held of a name is what its log says, and so is its file.
pub record HoldsPart (first : Option (List ℕ)) (log : Log) (p : Parts)
    (finished : List (List ℕ × Verdict)) (window : List (Option (List ℕ))) (g : Growing)
    (found : Option (List ℕ)) : Type 0 where
  pub fits : IsTrue (list_all is_admitted log.admitted)
  pub memory : HoldsName (is_some first) g.name log (kept_as p finished window g)
  pub file : NameStands first log g.limit (kept_as p finished window g) found
  pub ahead : StandsAhead first log g found

-- Each admitted request is done, so that nothing waits, and each has a spelling.
pub record IsAllDone (log : Log) : Type 0 where
  pub fits : IsTrue (list_all is_admitted log.admitted)
  pub all : length log.admitted ≤ log.done

-- a number that was tried
abbrev pub drained_by : Tried → Drained
drained_by (tries.Done v) = Done v
drained_by tries.Held = Stopped

-- draining stopped at a fault
abbrev pub is_stopped : Drained → Bool
is_stopped Idle = false
is_stopped (Done v) = false
is_stopped Stopped = true

-- the log after a drained number
abbrev pub drained_log : Drained → Log → Log
drained_log Idle log = log
drained_log (Done v) log = with_done log
drained_log Stopped log = log

-- how many numbers were done
abbrev pub drained_count : Drained → ℕ
drained_count Idle = 0
drained_count (Done v) = 1
drained_count Stopped = 0

-- at most this many calls of the store
abbrev pub call_bound : Drained → ℕ
call_bound Idle = 0
call_bound (Done v) = 4
call_bound Stopped = 4

-- the number that was tried is one of a message
abbrev pub IsTried : Drained → ℕ → Type 0
IsTried Idle number = Unit {0}
IsTried (Done v) number = number ≤ last_number Second
IsTried Stopped number = number ≤ last_number Second

-- Nothing was held; or the number has its verdict; or it still waits.
abbrev pub ReportsNext : Drained → Bool → Log → Type 0
ReportsNext Idle existed log = at log.admitted log.done ≡ None
ReportsNext (Done v) existed log =
    IsSome (at log.admitted log.done)
    × (verdict_meaning v ≡ verdict_at existed log.admitted log.done)
ReportsNext Stopped existed log = IsSome (at log.admitted log.done)

-- One drained number raises `done` by one, or leaves the log.
pub record DrainsNext (answer : Drained) (first : Option (List ℕ)) (log : Log) (p : Parts)
    (finished : List (List ℕ × Verdict)) (window : List (Option (List ℕ))) (g : Growing)
    (found : Option (List ℕ)) : Type 0 where
  pub reported : ReportsNext answer (is_some first) log
  pub left : HoldsPart first (drained_log answer log) p finished window g found

-- of what is kept and held
abbrev pub DrainsPart : Drained → Option (List ℕ) → Log → Part → Option (List ℕ) → Type 0
DrainsPart answer first log p found =
    DrainsNext answer first log p.parts p.outcomes p.window p.growing found
