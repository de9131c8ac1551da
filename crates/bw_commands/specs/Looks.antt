-- The result of opening and inspecting a file.
use Rattle.std.specs.Prelude.{◌≡◌, ◌⊎◌, ℕ, Bool, true, false, Option, List}
use Rattle.std.specs.declared.io.ErrorKind.{ErrorKind}
use Rattle.bw_console.specs.Outcomes.{Outcome, IsOutOfMemory}
use Rattle.bw_console.specs.FailedOpenings.{IsUnopened}
use Rattle.bw_commands.specs.Inspections.{IsInspection}

-- the file of a path was inspected, which the input has no part in
pub record IsInspected (file : Option (List ℕ)) (did : Outcome) : Type 0 where
  pub reads : did.reads_all ≡ true
  pub reads_file : Bool
  pub is : IsInspection file (record did { reads_all = reads_file })

-- the result of inspecting a file that the system opens, or not
abbrev pub IsLook : Option (List ℕ) → List ℕ → Bool → Outcome → Type 0
IsLook file path true did = IsInspected file did
IsLook file path false did = ((kind : ErrorKind) × IsUnopened path kind did) ⊎ IsOutOfMemory did
