-- What was read of a take's file at a start.
use Rattle.std.specs.Prelude.{◌≡◌, ℕ, Option, Some, None, List, length, take, slice_get}
use Rattle.bw_model.specs.Take.{Parts}
use Rattle.bw_model.specs.File.{data_place}
use Rattle.bw_recovery.specs.Files.{data_end}
use Rattle.bw_recovery.specs.declared.reading.FileRead.{FileRead}

-- this was read of a take's file
pub record IsReadOf (p : Parts) (found : List ℕ) (read : FileRead) : Type 0 where
  pub len : read.len ≡ length found
  pub front : read.front.items ≡ take (data_place (length p.history)) found
  pub after : read.after ≡ slice_get found (data_end p)

-- this was read of what is at the path of a take's file, if anything is
abbrev pub SeesRead : Parts → Option (List ℕ) → Option FileRead → Type 0
SeesRead p None None = Unit {0}
SeesRead p None (Some read) = ⊥
SeesRead p (Some found) None = ⊥
SeesRead p (Some found) (Some read) = IsReadOf p found read
