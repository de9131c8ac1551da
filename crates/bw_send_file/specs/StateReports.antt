-- What is reported of a state.
use Rattle.std.specs.Prelude.{◌≡◌, ◌⊎◌, ◌++◌, ◌∷◌, ℕ, List, [], Bool, true, false, codes, decimal}
use Rattle.std.specs.declared.io.ErrorKind.{ErrorKind}
use Rattle.bw_console.specs.FailedOpenings.{exit_unopened}
use Rattle.bw_console.specs.Prints.{Print, Nothing, IsOf}
use Rattle.bw_console.specs.declared.exit.Exit.{Exit}
use Rattle.bw_console.specs.declared.exit.Exit.TheVariants as exits
use Rattle.bw_send_file.specs.Endings.{EndsWithLine, memory_line}

-- the line of a state that can't be read or written
abbrev pub unkept_text : List ℕ → List ℕ → List ℕ
unkept_text path reason = path ++ (codes ": the state can't be kept: " ++ (reason ++ 10 ∷ []))

-- it is reported for an error of this kind, or memory was refused for it
abbrev pub ReportsUnkept : List ℕ → ErrorKind → Exit → Print → Type 0
ReportsUnkept path kind exit print =
    ((reason : List ℕ) × EndsWithLine (unkept_text path reason) (exit_unopened kind) exit print)
    ⊎ EndsWithLine memory_line exits.Memory exit print

-- the line that says where a sender begins
abbrev pub start_text : List ℕ → List ℕ → ℕ → List ℕ
start_text path words n = path ++ (codes ": " ++ (words ++ (codes " " ++ (decimal n ++ 10 ∷ []))))

abbrev pub other_state_text : List ℕ → List ℕ
other_state_text path = start_text path (codes "another state, begins at") 0

abbrev pub less_text : List ℕ → List ℕ
less_text path = start_text path (codes "the server expects less, begins at") 0

abbrev pub goes_on_text : List ℕ → ℕ → List ℕ
goes_on_text path count = start_text path (codes "goes on at") count

-- it is reported, or nothing is where memory was refused
abbrev pub ReportsStart : List ℕ → Print → Type 0
ReportsStart text print = IsOf text print ⊎ (print ≡ Nothing)

-- whether the server expects less than was found
abbrev pub ReportsAnswer : Bool → List ℕ → ℕ → Print → Type 0
ReportsAnswer true path count print = ReportsStart (less_text path) print
ReportsAnswer false path count print = ReportsStart (goes_on_text path count) print

-- another state that is replaced is reported
abbrev pub ReportsOther : Bool → List ℕ → Print → Type 0
ReportsOther true path print = ReportsStart (other_state_text path) print
ReportsOther false path print = print ≡ Nothing
