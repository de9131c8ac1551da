-- Which counts of a sender's requests may be noted.
use Rattle.std.specs.Prelude.{◌≡◌, ◌≢◌, ◌⊎◌, ◌≤◌, ◌<◌, ℕ, Option, List, [], length, true, false, is_none}
use Rattle.bw_model.specs.World.{Sender, refused, settled}
use Rattle.bw_console.specs.Text.{as_line}
use Rattle.bw_console.specs.Prints.{failures_if}
use Rattle.bw_stream.specs.Moves.{Begins, Writes, one_more}
use Rattle.bw_ports.specs.Counts.{settled_text}
use Rattle.bw_ports.specs.declared.state_files.StateLog.{Ghosts as LogGhosts}
use Rattle.bw_send_file.specs.declared.keeper.StateKeeper.{StateKeeper}

-- the first so many requests are settled, and stored, and the last that was offered isn't one of them
pub record CountsStored (s : Sender) (n : ℕ) : Type 0 where
  pub settled_are : n ≤ settled s
  pub none_refused : refused s ≡ []
  pub before_last : n < length s.offered

-- there is no such count
abbrev pub CountsNothing : Sender → Type 0
CountsNothing s = (length s.offered ≡ 0) ⊎ (refused s ≢ [])

-- nothing was written, or such a count, or the prefix of its line
abbrev pub NotesCount : Sender → Option (List ℕ) → Option (List ℕ) → Type 0
NotesCount s old new = (new ≡ old)
    ⊎ ((n : ℕ) × CountsStored s n
    × (Writes old (as_line (settled_text n)) new ⊎ Begins old (as_line (settled_text n)) new))

module _ {L T : Type 0} where
  -- the state's file
  abbrev pub kept_log : StateKeeper L T → L
  kept_log keeper = keeper.log

  -- the last count in it
  abbrev pub kept_count : StateKeeper L T → ℕ
  kept_count keeper = keeper.noted

module _ {L T : Type 0} (log : LogGhosts L) where
  -- Of the calls on the state's file the last one failed, or none. After one has failed there are no
  -- more, and what was wrong with it is kept.
  pub record KeepsFault (old new : StateKeeper L T) : Type 0 where
    pub counts : is_none old.fault ≡ true →
        log.failures new.log ≡ failures_if (is_none new.fault) (log.failures old.log)
    pub stops : is_none old.fault ≡ false → (new.log ≡ old.log) × (new.fault ≡ old.fault)

  -- a keeper hears how far the sender is
  pub record HearsProgress (s : Sender) (old new : StateKeeper L T) : Type 0 where
    pub count : NotesCount s (log.written old.log) (log.written new.log)
    pub fault : KeepsFault old new

  -- a failure is reported if there was one, and only then: of an earlier call, or of the last one
  pub record ReturnsKeptFault {E : Type 0} (keeper : StateKeeper L T) (returned : Option E) : Type 0 where
    pub heard : is_none keeper.fault ≡ false → is_none returned ≡ false
    pub rightly : is_none returned ≡ false → (is_none keeper.fault ≡ false)
        ⊎ ((after : L) × (log.failures after ≡ one_more (log.failures keeper.log)))
