-- What the command that gives up a take prints and reports, and how it ends.
use Rattle.std.specs.Prelude.{◌≡◌, ◌⊎◌, ℕ, true, List, ◌++◌, codes, IsTrue}
use Rattle.std.specs.Prelude.{Result, Ok, Err, MatchResult}
use Rattle.std.specs.IoError.{error_kind}
use Rattle.bw_console.specs.FailedOpenings.{IsUnopened}
use Rattle.bw_console.specs.Outcomes.{Outcome, IsOutOfMemory}
use Rattle.bw_console.specs.Prints.{Nothing, IsOf}
use Rattle.bw_console.specs.declared.exit.Exit.{Exit}
use Rattle.bw_console.specs.declared.exit.Exit.TheVariants as exits
use Rattle.bw_disk.specs.declared.disk.Disk.{Ghosts}
use Rattle.bw_ports.specs.declared.folder_locks.LockRefusal.{LockRefusal}
use Rattle.bw_ports.specs.declared.folder_locks.LockRefusal.TheVariants as refusals
use Rattle.bw_store.specs.Stores.{Counts}
use Rattle.bw_take_files.specs.GivenUp.{PutsTakeAside, StaysUnlessFailed, is_disk_failure}
use Rattle.bw_take_files.specs.declared.giving_up.GiveUpFault.{GiveUpFault}
use Rattle.bw_take_files.specs.declared.giving_up.GiveUpFault.TheVariants.{Unknown, Earlier, Disk, Memory}
use Rattle.bw_takes.specs.Showings.{IsFolderUnread, PrintsAll, PrintsPart}

-- what is printed of a take that is given up
abbrev pub given_line : List ℕ → List ℕ
given_line name = name ++ codes " given-up\n"

-- what is reported of a name without a take
abbrev pub unknown_line : List ℕ → List ℕ
unknown_line name = name ++ codes ": no take of this name is here\n"

-- what is reported of a name of which one was given up earlier
abbrev pub earlier_line : List ℕ → List ℕ
earlier_line name = name ++ codes ": one was given up earlier, its .given-up files are in the way\n"

-- what is reported where another server has the lock
abbrev pub running_text : List ℕ
running_text = codes "another server runs here\n"

-- this is reported, and the command ends so
pub record IsLineReported (text : List ℕ) (exit : Exit) (did : Outcome) : Type 0 where
  pub prints : did.out ≡ Nothing
  pub reports : IsOf text did.faults
  pub exit_is : did.exit ≡ exit
  pub reads : did.reads_all ≡ true

-- all of this is printed, or a part of it before the writer fails
pub record IsGivenPrint (name : List ℕ) (did : Outcome) : Type 0 where
  pub printed : PrintsAll (given_line name) true did ⊎ PrintsPart (given_line name) did
  pub reads : did.reads_all ≡ true

-- what is reported of a take that is given up, or of why it isn't
abbrev pub ReportsGivingUp : Result (Unit {0}) GiveUpFault → List ℕ → List ℕ → Outcome → Type 0
ReportsGivingUp (Ok x) folder name did = IsGivenPrint name did
ReportsGivingUp (Err Unknown) folder name did = IsLineReported (unknown_line name) exits.Refused did
ReportsGivingUp (Err Earlier) folder name did = IsLineReported (earlier_line name) exits.Refused did
ReportsGivingUp (Err Disk) folder name did = IsFolderUnread folder did ⊎ IsOutOfMemory did
ReportsGivingUp (Err Memory) folder name did = IsOutOfMemory did

-- A take is given up on a disk, or it isn't, and that is reported.
pub record TriesToGiveUp {D F : Type 0} (G : Ghosts D F) (folder name : List ℕ) (d d' : D)
    (did : Outcome) : Type 0 where
  pub answer : Result (Unit {0}) GiveUpFault
  pub leaves : IsTrue (G.honest d) → MatchResult answer
      (λ _. PutsTakeAside folder name (G.contents d) (G.contents d'))
      (λ fault. StaysUnlessFailed folder name fault (G.contents d) (G.contents d'))
  pub honest : G.honest d' ≡ G.honest d
  pub failures : Counts (G.failures d) (G.failures d') (is_disk_failure answer)
  pub told : ReportsGivingUp answer folder name did

-- it is reported why the folder isn't locked
abbrev pub IsLockedOut : LockRefusal → List ℕ → Outcome → Type 0
IsLockedOut refusals.Running folder did = IsLineReported running_text exits.Device did
IsLockedOut (refusals.Unusable error) folder did =
    IsUnopened folder (error_kind error) did ⊎ IsOutOfMemory did
IsLockedOut refusals.Memory folder did = IsOutOfMemory did

-- with the lock of the folder a take is given up, or it isn't; without it nothing is done
abbrev pub IsGivingUp : {D F L : Type 0} → Ghosts D F → Result L LockRefusal → List ℕ → List ℕ →
    D → D → Outcome → Type 0
IsGivingUp G (Ok lock) folder name d d' did = TriesToGiveUp G folder name d d' did
IsGivingUp G (Err refusal) folder name d d' did = (d' ≡ d) × IsLockedOut refusal folder did
