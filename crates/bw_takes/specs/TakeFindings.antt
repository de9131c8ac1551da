-- What is found of a take without its samples.
use Rattle.std.specs.Prelude.{◌≡◌, ℕ, Option, Some, None, IsSome, Result, Ok, Err, List, length}
use Rattle.bw_journal.specs.Replays.{Story, JournalFault, NotBegun, replay}
use Rattle.bw_journal.specs.Stories.{story_of}
use Rattle.bw_recovery.specs.Findings.{cause_of}
use Rattle.bw_recovery.specs.Names.{NameFault, fault_beside}
use Rattle.bw_takes.specs.TakeLines.{own_limit}
use Rattle.bw_takes.specs.declared.finding.TakeFinding.{TakeFinding}
use Rattle.bw_takes.specs.declared.finding.TakeFinding.TheVariants.{Stood, Unbegun, Refused, Begun, Changed}

-- how many bytes a file has, if there is one
abbrev pub IsLengthOf : Option (List ℕ) → ℕ → Type 0
IsLengthOf None len = Unit {0}
IsLengthOf (Some found) len = len ≡ length found

-- this is found of a take whose journal says this, and with which this is wrong
abbrev pub IsFoundBy : Result Story JournalFault → Option NameFault → TakeFinding → Type 0
IsFoundBy reported fault Stood = ⊥
IsFoundBy reported fault Unbegun = (reported ≡ Err NotBegun) × (fault ≡ None)
IsFoundBy reported fault (Refused cause) = (fault ≡ cause_of cause) × IsSome (cause_of cause)
IsFoundBy reported fault (Begun r) = (reported ≡ Ok (story_of r)) × (fault ≡ None)
IsFoundBy reported fault (Changed number) = ⊥

-- the same by what its journal says, and its file
abbrev pub IsFoundBeside : ℕ → Result Story JournalFault → Option (List ℕ) → TakeFinding → Type 0
IsFoundBeside limit reported file found = IsFoundBy reported (fault_beside limit reported file) found

-- nothing but that a file exists
abbrev pub IsStood : TakeFinding → Type 0
IsStood found = found ≡ Stood

-- this is found of a take with this journal, if it has one, and this file
abbrev pub IsTakeFound : List ℕ → Option (List ℕ) → Option (List ℕ) → TakeFinding → Type 0
IsTakeFound name None file found = IsStood found
IsTakeFound name (Some journal) file found =
    IsFoundBeside (own_limit journal) (replay (own_limit journal) name journal) file found
