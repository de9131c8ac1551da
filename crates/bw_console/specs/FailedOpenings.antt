-- What is reported of a file that can't be opened.
use Rattle.std.specs.Prelude.{◌≡◌, ℕ, [], ◌∷◌, ◌++◌, true, List, codes}
use Rattle.std.specs.declared.io.ErrorKind.{ErrorKind}
use Rattle.std.specs.declared.io.ErrorKind.TheVariants as kinds
use Rattle.bw_console.specs.Outcomes.{Outcome}
use Rattle.bw_console.specs.Prints.{Nothing, IsOf}
use Rattle.bw_console.specs.declared.exit.Exit.{Exit}
use Rattle.bw_console.specs.declared.exit.Exit.TheVariants as exits

-- how the program ends if a file can't be opened
abbrev pub exit_unopened : ErrorKind → Exit
exit_unopened kinds.OutOfMemory = exits.Memory
exit_unopened _ = exits.Device

-- what is reported of a path whose file can't be opened
abbrev pub unopened_text : List ℕ → List ℕ → List ℕ
unopened_text path reason = path ++ (codes " can't be opened: " ++ (reason ++ 10 ∷ []))

-- a call of the system failed, with an error of this kind, whose reason is in the line that is reported
pub record ReportsFailure (line : List ℕ → List ℕ) (kind : ErrorKind) (did : Outcome) : Type 0 where
  pub exit_is : did.exit ≡ exit_unopened kind
  pub reads : did.reads_all ≡ true
  pub prints : did.out ≡ Nothing
  pub reason : List ℕ
  pub reports : IsOf (line reason) did.faults

-- the file of this path can't be opened, for an error of this kind, whose reason is reported
abbrev pub IsUnopened : List ℕ → ErrorKind → Outcome → Type 0
IsUnopened path = ReportsFailure (unopened_text path)
