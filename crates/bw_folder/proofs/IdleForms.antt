-- What is noted where nothing is pending.
use Rattle.std.proofs.Common.{◌≡◌, ℕ, List, Option, false}
use Rattle.std.specs.List.{list_any}
use Rattle.bw_folder.specs.declared.journal.OpenJournal.{OpenJournal}
use Rattle.bw_folder.specs.Journals.{notes_at}
use Rattle.bw_folder.specs.PendingNotes.{pendings, unwritten_of, waits, noted_at}
use Rattle.bw_folder.proofs.PendingLaws.{noted_idle}
use Rattle.bw_folder.proofs.PendingForms.{none_waits}

-- nothing is pending of any name: what is noted is what the files have
pub noted_idly : {F : Type 0} (js : List (OpenJournal F)) (contents : List ℕ → Option (List ℕ)) (folder name : List ℕ) →
    list_any (λ (j : OpenJournal F). waits j.pending.items) js ≡ false →
    noted_at (pendings js) contents folder name ≡ notes_at contents folder name
noted_idly js contents folder name none =
    noted_idle (unwritten_of (pendings js) name) (notes_at contents folder name) (none_waits js none name)
