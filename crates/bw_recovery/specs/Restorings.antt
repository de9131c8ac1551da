-- What restoring a name makes of a folder, on two disks, of takes and of journals.
use Rattle.std.specs.Prelude.{◌≡◌, ℕ, Bool, true, false, Some, None, IsTrue, List}
use Rattle.bw_store.specs.Stores.{KeepsOthers}
use Rattle.bw_disk.specs.declared.disk.Disk.{Ghosts}
use Rattle.bw_recovery.specs.Changes.{ChangesTake, IsCrowded}
use Rattle.bw_recovery.specs.CountedFaults.{CountsOneUnless}
use Rattle.bw_recovery.specs.Findings.{IsFound, IsRestored, SparesFile}
use Rattle.bw_recovery.specs.Names.{name_fault}
use Rattle.bw_recovery.specs.Paths.{wave_path, notes_path}
use Rattle.bw_recovery.specs.StaysLeft.{StaysLeft}
use Rattle.bw_recovery.specs.declared.finding.Finding.{Finding}
use Rattle.bw_recovery.specs.declared.finding.Finding.TheVariants.{Refused, Unbegun, Begun}

-- the name can't be resumed
abbrev pub is_refused : Finding → Bool
is_refused (Refused cause) = true
is_refused Unbegun = false
is_refused (Begun b) = false

module _ {D E F H : Type 0} (G : Ghosts D F) (K : Ghosts E H) where
  -- This was found of a name in the folder, and both disks are honest.
  pub record IsFoundOn (limit : ℕ) (folder name : List ℕ) (takes : D) (notes : E) (finding : Finding) :
      Type 0 where
    pub takes_honest : IsTrue (G.honest takes)
    pub notes_honest : IsTrue (K.honest notes)
    pub journal : List ℕ
    pub stands : K.contents notes (notes_path folder name) ≡ Some journal
    pub found : IsFound limit name journal (G.contents takes (wave_path folder name)) finding
    pub spares : SparesFile finding

  -- nothing is wrong with a name with this journal
  abbrev pub IsSoundOn : ℕ → List ℕ → List ℕ → List ℕ → D → Type 0
  IsSoundOn limit folder name journal takes =
      name_fault limit name journal (G.contents takes (wave_path folder name)) ≡ None

  -- a name that had this journal has journal and file that it is to have
  abbrev pub RestoresOn : ℕ → List ℕ → List ℕ → List ℕ → D → D → E → Type 0
  RestoresOn limit folder name journal takes later_takes later_notes =
      IsRestored limit name journal (G.contents takes (wave_path folder name))
      (K.contents later_notes (notes_path folder name)) (G.contents later_takes (wave_path folder name))

  -- whatever a stop left of it stays so
  abbrev pub StaysLeftOn : ℕ → List ℕ → List ℕ → List ℕ → D → D → E → Type 0
  StaysLeftOn limit folder name journal takes later_takes later_notes =
      StaysLeft limit name (Some journal) (G.contents takes (wave_path folder name))
      (K.contents later_notes (notes_path folder name)) (G.contents later_takes (wave_path folder name))

  -- each other path has what it had, or the name's file was moved
  abbrev pub ChangesOn : List ℕ → List ℕ → D → E → D → E → Type 0
  ChangesOn folder name takes notes later_takes later_notes =
      ChangesTake folder name (G.contents takes) (G.contents later_takes)
      × KeepsOthers (K.contents notes) (K.contents later_notes) (notes_path folder name)

  -- one call of the two disks failed if this happened, and no other; or no path is free for the file
  abbrev pub CountsOn : List ℕ → List ℕ → D → E → D → E → Bool → Type 0
  CountsOn folder name takes notes later_takes later_notes happens =
      CountsOneUnless (IsCrowded folder name (G.contents takes)) (G.failures takes) (G.failures later_takes)
      (K.failures notes) (K.failures later_notes) happens
