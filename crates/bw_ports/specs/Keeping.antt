-- What a sender does with its spool, besides sending what it holds.
use Rattle.std.specs.Prelude.{◌≡◌, ◌⊎◌, ◌++◌, ℕ, zero, suc, Bool, true, false, Option, Some, None, List}
use Rattle.std.specs.Prelude.{Result, Ok, Err, codes, decimal}
use Rattle.std.specs.IoError.{error_kind}
use Rattle.std.specs.declared.io.Error.{Error as IoError}
use Rattle.bw_stream.specs.declared.sink.Sink.{Ghosts as Writer}
use Rattle.bw_console.specs.FailedOpenings.{IsUnopened}
use Rattle.bw_console.specs.Outcomes.{Outcome as Did, IsOutOfMemory}
use Rattle.bw_console.specs.Prints.{IsOf, IsPrint, Nothing, Print}
use Rattle.bw_console.specs.Text.{as_line}
use Rattle.bw_console.specs.declared.exit.Exit.{Exit}
use Rattle.bw_console.specs.declared.exit.Exit.TheVariants as exits
use Rattle.bw_ports.specs.declared.spool_keeper.SpoolKeeper.{Ghosts as KeeperGhosts}

-- what is said before the rest of the input is drawn
abbrev pub drawing_text : List ℕ
drawing_text = as_line (codes "send: the input is kept in the spool until it ends")

-- what is said of a spool with so many bytes, once nothing more comes
abbrev pub kept_text : List ℕ → ℕ → List ℕ
kept_text path bytes = codes "send: " ++ path ++ codes " holds " ++ decimal bytes
    ++ as_line (codes " bytes; run this with '--file' in the place of '--spool' to send them, with another '--name' if this one was refused")

-- where more may come, that is said
abbrev pub SaysDrawing : Bool → Print → Type 0
SaysDrawing true print = IsOf drawing_text print
SaysDrawing false print = print ≡ Nothing

-- what a spool holds is said, if it is known, it holds something, and memory isn't refused
abbrev pub SaysKept : List ℕ → Option ℕ → Print → Type 0
SaysKept path None print = print ≡ Nothing
SaysKept path (Some zero) print = print ≡ Nothing
SaysKept path (Some (suc n)) print = IsOf (kept_text path (suc n)) print ⊎ (print ≡ Nothing)

module _ {K E : Type 0} (keeper : KeeperGhosts K) (reported : Writer E) where
  -- the spool at a path is held for this line, and nothing is said; or it isn't, which is reported
  abbrev pub HoldsSpool : List ℕ → List ℕ → Result (Unit {0}) Exit → K → K → E → E → Type 0
  HoldsSpool path line (Ok u) k k' e e' = keeper.holds k path line (Ok tt) k' × (e' ≡ e)
  HoldsSpool path line (Err exit) k k' e e' =
      (did : Did) × (did.exit ≡ exit) × IsPrint reported did.faults e e'
      × ((IsOutOfMemory did × (k' ≡ k))
      ⊎ ((error : IoError) × keeper.holds k path line (Err error) k'
      × (IsUnopened path (error_kind error) did ⊎ IsOutOfMemory did)))

  -- what still comes is drawn into the spool, and it is said what it holds then
  pub record KeepsRest (path : List ℕ) (k k' : K) (e e' : E) : Type 0 where
    pub is_open : Bool
    pub opens : keeper.opens k is_open
    pub kept : Option ℕ
    pub keeps : keeper.keeps k kept k'
    pub before : Print
    pub between : E
    pub says_before : SaysDrawing is_open before
    pub prints_before : IsPrint reported before e between
    pub after : Print
    pub says_after : SaysKept path kept after
    pub prints_after : IsPrint reported after between e'

  -- unless all that was to be sent is stored
  abbrev pub KeepsUnlessDone : List ℕ → Exit → K → K → E → E → Type 0
  KeepsUnlessDone path exits.Done k k' e e' = (k' ≡ k) × (e' ≡ e)
  KeepsUnlessDone path exits.Refused k k' e e' = KeepsRest path k k' e e'
  KeepsUnlessDone path exits.Usage k k' e e' = KeepsRest path k k' e e'
  KeepsUnlessDone path exits.Device k k' e e' = KeepsRest path k k' e e'
  KeepsUnlessDone path exits.Memory k k' e e' = KeepsRest path k k' e e'
