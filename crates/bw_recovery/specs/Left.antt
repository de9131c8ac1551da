-- What a stop leaves of a take's file.
use Rattle.std.specs.Prelude.{◌≡◌, ℕ, ◌+◌, ◌≤◌, true, Option, Some, None, is_some}
use Rattle.std.specs.Prelude.{List, length, take, drop}
use Rattle.std.specs.Bool.{MatchBool}
use Rattle.bw_model.specs.Take.{Take, Format, AreFields, parts}
use Rattle.bw_model.specs.File.{file_of, data_place}
use Rattle.bw_recovery.specs.Files.{file_fault, file_after}

-- The samples are at their place, whatever follows them.
pub record IsMendable (t : Take) (found : List ℕ) : Type 0 where
  pub long : data_place (length t.history) + length t.samples ≤ length found
  pub samples : take (length t.samples) (drop (data_place (length t.history)) found) ≡ t.samples

-- the file of a take whose name was free: any or none without a format, and an open one is mendable
abbrev pub IsLeftOpen : Take → Option Format → Option (List ℕ) → Type 0
IsLeftOpen t None found = Unit {0}
IsLeftOpen t (Some f) None = ⊥
IsLeftOpen t (Some f) (Some found) = IsMendable t found

-- the file of a take by what was under its name: that stays, and a closed take's file is whole
abbrev pub IsLeftFile : Option (List ℕ) → Take → ℕ → Option (List ℕ) → Type 0
IsLeftFile (Some stood) t limit found = found ≡ Some stood
IsLeftFile None t limit found =
    MatchBool t.closed (found ≡ file_of t limit) (IsLeftOpen t t.format found)

-- what is to be under the name: what was, or the file of the take
abbrev pub wanted_file : Option (List ℕ) → Take → ℕ → Option (List ℕ)
wanted_file (Some stood) t limit = Some stood
wanted_file None t limit = file_of t limit

-- Nothing is wrong with such a file, and what becomes of it is the file of its take.
pub record IsMended (limit : ℕ) (first : Option (List ℕ)) (t : Take) (found : Option (List ℕ)) :
    Type 0 where
  pub fault : file_fault limit (parts t) found ≡ None
  pub after : file_after limit (parts t) found ≡ wanted_file first t limit

-- this holds of every take whose fields have their widths
abbrev pub LeftFilesAreMended : Type 0
LeftFilesAreMended = (limit : ℕ) (first : Option (List ℕ)) (t : Take) (found : Option (List ℕ)) →
    AreFields t.fields → t.taken ≡ is_some first → (t.closed ≡ true → is_some t.format ≡ true) →
    IsLeftFile first t limit found → IsMended limit first t found
