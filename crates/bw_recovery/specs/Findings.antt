-- What is found of a name at a start.
use Rattle.std.specs.Prelude.{◌≡◌, ℕ, ◌+◌, length, Option, Some, None, IsSome, option_map, Ok, Err, List}
use Rattle.std.specs.Prelude.{Bool, true, false, IsTrue, ◌||◌}
use Rattle.bw_recovery.specs.declared.adoption.Adoption.{Adoption}
use Rattle.bw_recovery.specs.declared.adoption.Adoption.TheVariants.{Keep, SetAside, Mend}
use Rattle.bw_journal.specs.JournalHeaders.{first_header}
use Rattle.bw_journal.specs.Replays.{NotBegun, OtherLimit as OtherLimitThere, replay}
use Rattle.bw_journal.specs.Faults.{fault_meaning}
use Rattle.bw_journal.specs.Stories.{story_of}
use Rattle.bw_recovery.specs.Names.{NameFault, OfJournal, OfFile, name_fault, kept_journal}
use Rattle.bw_recovery.specs.Names.{file_beside}
use Rattle.bw_recovery.specs.Adoptions.{adopted, DoesLeast, SparesTake}
use Rattle.bw_recovery.specs.declared.finding.NameFault.{NameFault as Fault}
use Rattle.bw_recovery.specs.declared.finding.NameFault.TheVariants.{Journal, OtherLimit, File}
use Rattle.bw_recovery.specs.declared.finding.Begun.{Begun}
use Rattle.bw_recovery.specs.declared.finding.Finding.{Finding}
use Rattle.bw_recovery.specs.declared.finding.Finding.TheVariants.{Refused, Unbegun, Begun as Resumes}

-- what is wrong, if it isn't memory
abbrev pub cause_of : Fault → Option NameFault
cause_of (Journal e) = option_map OfJournal (fault_meaning e)
cause_of (OtherLimit limit) = Some (OfJournal OtherLimitThere)
cause_of (File f) = Some (OfFile f)

-- the limit that is reported is that of the journal's header
abbrev pub ReportsLimit : Fault → List ℕ → Type 0
ReportsLimit (Journal e) journal = Unit {0}
ReportsLimit (OtherLimit limit) journal = option_map (λ x. x.0.limit) (first_header journal) ≡ Some limit
ReportsLimit (File f) journal = Unit {0}

-- A name can't be resumed, by what its journal and its file are.
pub record RefusesName (limit : ℕ) (name journal : List ℕ) (file : Option (List ℕ)) (cause : Fault) :
    Type 0 where
  pub fault : name_fault limit name journal file ≡ cause_of cause
  pub some : IsSome (cause_of cause)
  pub reported : ReportsLimit cause journal

-- A name is resumed, by what its journal and its file are.
pub record IsBegunAs (limit : ℕ) (name journal : List ℕ) (file : Option (List ℕ)) (b : Begun) :
    Type 0 where
  pub story : replay limit name journal ≡ Ok (story_of b.replayed)
  pub torn : b.replayed.used + b.replayed.torn ≡ length journal
  pub fault : name_fault limit name journal file ≡ None
  pub after : adopted b.adoption b.header.items file
      ≡ file_beside limit (replay limit name journal) file
  pub least : DoesLeast b.replayed.state.parts b.adoption b.header.items file
  pub kept : IsTrue (b.replayed.state.parts.taken || b.replayed.state.parts.closed) → b.adoption ≡ Keep

-- the file is left as it is
abbrev pub keeps_file : Adoption → Bool
keeps_file Keep = true
keeps_file SetAside = false
keeps_file (Mend m) = false

-- the file of a name is left as it is
abbrev pub leaves_take : Finding → Bool
leaves_take (Refused cause) = true
leaves_take Unbegun = true
leaves_take (Resumes b) = keeps_file b.adoption

-- what becomes of the file of a name spares its samples
abbrev pub SparesFile : Finding → Type 0
SparesFile (Refused cause) = Unit {0}
SparesFile Unbegun = Unit {0}
SparesFile (Resumes b) = SparesTake b.replayed.state.parts b.adoption b.header.items

-- this is found of a name with this journal and this file
abbrev pub IsFound : ℕ → List ℕ → List ℕ → Option (List ℕ) → Finding → Type 0
IsFound limit name journal file (Refused cause) = RefusesName limit name journal file cause
IsFound limit name journal file Unbegun =
    (replay limit name journal ≡ Err NotBegun) × (name_fault limit name journal file ≡ None)
IsFound limit name journal file (Resumes b) = IsBegunAs limit name journal file b

-- journal and file of a name are what becomes of these
pub record IsRestored (limit : ℕ) (name journal : List ℕ) (file : Option (List ℕ))
    (later_journal later_file : Option (List ℕ)) : Type 0 where
  pub notes : later_journal ≡ Some (kept_journal (replay limit name journal) journal)
  pub take : later_file ≡ file_beside limit (replay limit name journal) file
