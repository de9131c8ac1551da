-- When the recordings in spools were begun.
use Rattle.std.specs.Prelude.{◌≡◌, ◌≢◌, ◌⊎◌, ◌++◌, ◌<◌, ◌^◌, ℕ, List, [], ◌∷◌, Option, Some, None}
use Rattle.std.specs.Prelude.{Result, Ok, Err, codes, decimal, take}
use Rattle.std.specs.declared.io.ErrorKind.{ErrorKind}
use Rattle.bw_stream.specs.declared.sink.Sink.{Ghosts as Writer}
use Rattle.bw_console.specs.FailedOpenings.{IsUnopened}
use Rattle.bw_console.specs.Outcomes.{Outcome as Did, IsOutOfMemory}
use Rattle.bw_console.specs.Prints.{IsPrint}
use Rattle.bw_console.specs.declared.exit.Exit.{Exit}
use Rattle.bw_ports.specs.Keeping.{HoldsSpool}
use Rattle.bw_ports.specs.Purposes.{purpose_text}
use Rattle.bw_ports.specs.declared.spool_keeper.SpoolKeeper.{Ghosts as KeeperGhosts}
use Rattle.bw_ports.specs.declared.spool_purpose.Purpose.{Purpose}
use Rattle.bw_ports.specs.declared.state_files.StateFiles.{Ghosts as StateGhosts}
use Rattle.bw_live.specs.declared.begun_spool.SpoolWish.{SpoolWish}
use Rattle.bw_live.specs.declared.filled.Filled.{Filled}
use Rattle.bw_live.specs.declared.filled.Filled.TheVariants.{Nothing, Steady, Begun}

-- what names a take in a spool's line: `live began=1795941087123` or, where no moment is kept, `live`
abbrev pub begun_name : List ℕ → Option ℕ → List ℕ
begun_name name None = name
begun_name name (Some ms) = name ++ codes " began=" ++ decimal ms

-- the line of a spool whose recording was begun then
abbrev pub moment_line : Purpose → Option ℕ → List ℕ
moment_line p began = purpose_text (begun_name p.name.now began) p.rate p.channels p.bits p.skip

-- the text is the line of a recording that was begun then; of None, it is no line that says when
abbrev pub SaysBegun : Purpose → List ℕ → Option ℕ → Type 0
SaysBegun p text (Some ms) = (ms < 2 ^ 64) × (text ≡ moment_line p (Some ms))
SaysBegun p text None = (ms : ℕ) → ms < 2 ^ 64 → text ≢ moment_line p (Some ms)

-- when a recording was begun, by what its spool holds, and the text at its side: now, if it holds nothing
abbrev pub IsBegunBy : Purpose → ℕ → List ℕ → List ℕ → Option ℕ → Type 0
IsBegunBy p now [] text began = began ≡ Some now
IsBegunBy p now (c ∷ cs) text began = SaysBegun p text began

-- which fields are filled of samples in a file, by the text at its side: as of the spool that it was; else
-- those that are the same in each run
abbrev pub IsFilledBy : Purpose → List ℕ → Filled → Type 0
IsFilledBy p text (Begun ms) = SaysBegun p text (Some ms)
IsFilledBy p text Nothing = text ≡ moment_line p None
IsFilledBy p text Steady = SaysBegun p text None × (text ≢ moment_line p None)

-- which fields are filled of a recording that was begun then
abbrev pub filled_since : Option ℕ → Filled
filled_since None = Nothing
filled_since (Some ms) = Begun ms

module _ {S L : Type 0} (states : StateGhosts S L) where
  -- when the recording in a spool was begun, if a moment is to be kept and the files are reported: by
  -- at most 256 bytes of the file at its side
  abbrev pub FindsMomentAt : List ℕ → Purpose → Option ℕ → S → Option ℕ → Type 0
  FindsMomentAt path p None s began = began ≡ None
  FindsMomentAt path p (Some now) s began = (held text : List ℕ) → states.state_at s path ≡ Some held →
      states.state_at s (path ++ codes ".for") ≡ Some text → IsBegunBy p now held (take 256 text) began

  abbrev pub FindsBegin : SpoolWish → S → Option ℕ → Type 0
  FindsBegin wish = FindsMomentAt wish.path.now wish.purpose wish.started

  -- which fields are filled of samples in a file, if any is to be and the files are reported
  abbrev pub FillsAt : List ℕ → Purpose → Option ℕ → S → Filled → Type 0
  FillsAt path p None s filled = filled ≡ Nothing
  FillsAt path p (Some now) s filled = (text : List ℕ) →
      states.state_at s (path ++ codes ".for") ≡ Some text → IsFilledBy p (take 256 text) filled

  abbrev pub FindsFilled : SpoolWish → S → Filled → Type 0
  FindsFilled wish = FillsAt wish.path.now wish.purpose wish.started

module _ {E : Type 0} (reported : Writer E) where
  -- the text at the side of a path can't be read or memory was refused, which is reported
  abbrev pub ReportsUnreadSide : List ℕ → Exit → E → E → Type 0
  ReportsUnreadSide path exit e e' = (did : Did) × (did.exit ≡ exit) × IsPrint reported did.faults e e'
      × (((kind : ErrorKind) × IsUnopened path kind did) ⊎ IsOutOfMemory did)

module _ {S L E : Type 0} (states : StateGhosts S L) (reported : Writer E) where
  abbrev pub FillsFile : SpoolWish → Result Filled Exit → S → E → E → Type 0
  FillsFile wish (Ok filled) s e e' = FindsFilled states wish s filled × (e' ≡ e)
  FillsFile wish (Err exit) s e e' = ReportsUnreadSide reported wish.path.now exit e e'

module _ {S L K E : Type 0} (states : StateGhosts S L) (keeper : KeeperGhosts K) (reported : Writer E) where
  -- the spool is held for the line of the recording in it; or it isn't
  abbrev pub HoldsBegun : SpoolWish → Result (Option ℕ) Exit → S → K → K → E → E → Type 0
  HoldsBegun wish (Ok began) s k k' e e' = FindsBegin states wish s began
      × HoldsSpool keeper reported wish.path.now (moment_line wish.purpose began) (Ok tt) k k' e e'
  HoldsBegun wish (Err exit) s k k' e e' = (ReportsUnreadSide reported wish.path.now exit e e' × (k' ≡ k))
      ⊎ ((began : Option ℕ) × FindsBegin states wish s began
      × HoldsSpool keeper reported wish.path.now (moment_line wish.purpose began) (Err exit) k k' e e')
