-- What is done with a name on the disks of its folder's store and journal.
use Rattle.std.specs.Prelude.{◌≡◌, ℕ, List, Option, Some, None, IsTrue, IsSome, IfOk, IfNone, IfSome, OnOk}
use Rattle.std.specs.Prelude.{Result, Bool, is_some, ◌↔◌}
use Rattle.bw_disk.specs.DiskSteps.{StaysWhole}
use Rattle.bw_disk.specs.ReadFaults.{is_disk_fault}
use Rattle.bw_disk.specs.declared.disk.Disk.{Ghosts}
use Rattle.bw_disk.specs.declared.reading.ReadFault.{ReadFault}
use Rattle.bw_recovery.specs.CountedFaults.{CountsOneOf}
use Rattle.bw_recovery.specs.Findings.{IsFound, SparesFile, leaves_take}
use Rattle.bw_recovery.specs.Paths.{notes_path, wave_path}
use Rattle.bw_recovery.specs.Restorings.{ChangesOn, CountsOn, IsFoundOn, IsSoundOn, RestoresOn, StaysLeftOn}
use Rattle.bw_recovery.specs.Restorings.{is_refused}
use Rattle.bw_recovery.specs.declared.finding.Finding.{Finding}

module _ {D E F H : Type 0} (G : Ghosts D F) (K : Ghosts E H) (folder name : List ℕ) where
  -- This is found of the name; nothing is changed.
  pub record LooksOn (limit : ℕ) (takes : D) (notes : E) (answer : Result (Option Finding) ReadFault)
      (later_takes : D) (later_notes : E) : Type 0 where
    pub takes_whole : StaysWhole G takes later_takes
    pub notes_whole : StaysWhole K notes later_notes
    pub none : IsTrue (K.honest notes) → IfOk answer (λ found.
        IfNone found (K.contents notes (notes_path folder name) ≡ None))
    pub some : IsTrue (K.honest notes) → IfOk answer (λ found.
        IfSome found (λ _. IsSome (K.contents notes (notes_path folder name))))
    pub found : IsTrue (G.honest takes) → IsTrue (K.honest notes) → IfOk answer (λ found.
        (journal : List ℕ) → K.contents notes (notes_path folder name) ≡ Some journal →
        IfSome found (IsFound limit name journal (G.contents takes (wave_path folder name))))
    pub failures : CountsOneOf (G.failures takes) (G.failures later_takes) (K.failures notes)
        (K.failures later_notes) (is_disk_fault answer)
    pub spares : IfOk answer (λ found. IfSome found SparesFile)

  -- Journal and file of the name become what they are to be by what was found.
  pub record MendsOn (finding : Finding) (takes : D) (notes : E) (answer : Result (Unit {0}) ReadFault)
      (later_takes : D) (later_notes : E) : Type 0 where
    pub restored : (limit : ℕ) (f : IsFoundOn G K limit folder name takes notes finding) →
        IsSoundOn G K limit folder name f.journal takes → OnOk answer
        (RestoresOn G K limit folder name f.journal takes later_takes later_notes)
    pub left : (limit : ℕ) (f : IsFoundOn G K limit folder name takes notes finding) →
        StaysLeftOn G K limit folder name f.journal takes later_takes later_notes
    pub others : IsTrue (G.honest takes) → IsTrue (K.honest notes) →
        ChangesOn G K folder name takes notes later_takes later_notes
    pub failures : (limit : ℕ) → IsFoundOn G K limit folder name takes notes finding →
        CountsOn G K folder name takes notes later_takes later_notes (is_disk_fault answer)
    pub kept : IsTrue (leaves_take finding) → later_takes ≡ takes
    pub refused : IsTrue (is_refused finding) → later_notes ≡ notes

  -- It is known whether both disks have a file of the name, or neither has one; nothing is changed.
  pub record ComparesOn (takes : D) (notes : E) (answer : Result Bool ReadFault) (later_takes : D)
      (later_notes : E) : Type 0 where
    pub takes_whole : StaysWhole G takes later_takes
    pub notes_whole : StaysWhole K notes later_notes
    pub alike : IsTrue (G.honest takes) → IsTrue (K.honest notes) → IfOk answer (λ alike. IsTrue alike
        ↔ (is_some (G.contents takes (wave_path folder name))
        ≡ is_some (K.contents notes (wave_path folder name))))
    pub failures : CountsOneOf (G.failures takes) (G.failures later_takes) (K.failures notes)
        (K.failures later_notes) (is_disk_fault answer)
