-- A conversion of a file that is named in two ways.
use Rattle.std.proofs.Common.{◌≡◌, Bool, List, ℕ, Option, subst}
use Rattle.bw_console.specs.Outcomes.{Outcome}
use Rattle.bw_disk.specs.declared.disk.Disk.{Ghosts}
use Rattle.bw_repair.specs.Conversions.{IsConversion}
use Rattle.bw_repair.specs.declared.conversions.form.WideForm.{WideForm}

-- it is the conversion of the file at the same path, to the same one, under the same id
pub conversion_named : {D F : Type 0} (G : Ghosts D F) (file_at : List ℕ → Option (List ℕ))
    (path path' to to' : List ℕ) (form form' : WideForm) (old new : D) (gives_all : Bool) (did : Outcome) →
    path ≡ path' → to ≡ to' → form ≡ form' → IsConversion G (file_at path) to form path old new gives_all did →
    IsConversion G (file_at path') to' form' path' old new gives_all did
conversion_named G file_at path path' to to' form form' old new gives_all did same_path same_to same_form is =
    subst (λ (f : WideForm). IsConversion G (file_at path') to' f path' old new gives_all did) same_form
    (subst (λ (t : List ℕ). IsConversion G (file_at path') t form path' old new gives_all did) same_to
    (subst (λ (p : List ℕ). IsConversion G (file_at p) to form p old new gives_all did) same_path is))
