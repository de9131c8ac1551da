-- What is reported of files that aren't opened or written.
use Rattle.std.proofs.Common.{◌≡◌, ◌⊎◌, ℕ, List, true, inl, inr}
use Rattle.std.specs.declared.io.ErrorKind.{ErrorKind}
use Rattle.bw_console.specs.FailedOpenings.{IsUnopened}
use Rattle.bw_console.specs.Outcomes.{Outcome, IsOutOfMemory}
use Rattle.bw_console.specs.Prints.{Nothing}
use Rattle.bw_repair.specs.Repairs.{IsUnwritten}

pub unwritten_prints : (path : List ℕ) (kind : ErrorKind) (did : Outcome) → IsUnwritten path kind did ⊎ IsOutOfMemory did →
    (did.out ≡ Nothing) × (did.reads_all ≡ true)
unwritten_prints path kind did (inl u) = (u.prints, u.reads)
unwritten_prints path kind did (inr m) = (m.prints, m.reads)

pub unopened_prints : (path : List ℕ) (kind : ErrorKind) (did : Outcome) → IsUnopened path kind did ⊎ IsOutOfMemory did →
    (did.out ≡ Nothing) × (did.reads_all ≡ true)
unopened_prints path kind did (inl u) = (u.prints, u.reads)
unopened_prints path kind did (inr m) = (m.prints, m.reads)
