-- Whether a file has exactly the bytes of a reader.
use Rattle.std.specs.Prelude.{◌≡◌, ◌↔◌, ℕ, Bool, true, false, List, Option, Some, Result, Ok, Err, drop}
use Rattle.std.specs.Prelude.{length, take}
use Rattle.bw_repair.specs.declared.left_out.comparing.CompareFault.{CompareFault}
use Rattle.bw_repair.specs.declared.left_out.comparing.CompareFault.TheVariants.{Read, Disk}

-- the answer is yes exactly if a file with this content has the bytes w, and no others
abbrev pub Compares : Option (List ℕ) → List ℕ → Bool → Type 0
Compares content w holds = (found : List ℕ) → content ≡ Some found → (holds ≡ true) ↔ (found ≡ w)

-- .. or the bytes of a piece at a place
abbrev pub HasPiece : Option (List ℕ) → ℕ → List ℕ → Bool → Type 0
HasPiece content place piece has = (found : List ℕ) → content ≡ Some found →
    (has ≡ true) ↔ (take (length piece) (drop place found) ≡ piece)

-- a call of the disk failed in a comparison with this result
abbrev pub is_disk_compare : {X : Type 0} → Result X CompareFault → Bool
is_disk_compare (Ok x) = false
is_disk_compare (Err (Read place)) = false
is_disk_compare (Err Disk) = true
