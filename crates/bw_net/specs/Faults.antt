-- Which failed calls of a server's store are reported, and how.
use Rattle.std.specs.Prelude.{◌++◌, ◌/◌, [], ◌∷◌, ℕ, nat_le, Bool, true, false, List, Option, Some, None}
use Rattle.std.specs.Prelude.{codes}
use Rattle.std.specs.Duration.{as_nanos}
use Rattle.std.specs.declared.io.ErrorKind.{ErrorKind}
use Rattle.std.specs.declared.io.ErrorKind.TheVariants as kinds
use Rattle.std.specs.declared.time.Duration.{Duration}

-- whether an error is a fault, and no answer
abbrev pub is_fault : ErrorKind → Bool
is_fault kinds.NotFound = false
is_fault kinds.AlreadyExists = false
is_fault kinds.Interrupted = false
is_fault _ = true

-- whether a line may be printed so long after the last one, if that is known
abbrev pub is_line_due : Option Duration → Bool
is_line_due None = true
is_line_due (Some passed) = nat_le 60 (as_nanos passed / 1_000_000_000)

-- the line of a call that failed at a start
abbrev pub start_fault_text : List ℕ → List ℕ → List ℕ
start_fault_text path reason = path ++ (codes ": " ++ (reason ++ 10 ∷ []))

-- .. and while a server runs
abbrev pub store_fault_text : List ℕ → List ℕ → List ℕ
store_fault_text path reason = codes "the store fails: " ++ start_fault_text path reason
