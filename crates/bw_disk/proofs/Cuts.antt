-- Files that are cut, or aren't.
use Rattle.std.proofs.Common.{ℕ, ◌+◌, List, length, Option, Some, None, refl, sym, ap, arith}
use Rattle.std.proofs.lemmas.List.{take_all}
use Rattle.bw_disk.specs.Volumes.{IsCutInPart}

-- a file that stays as it is
pub uncut : (found : Option (List ℕ)) (len : ℕ) → IsCutInPart found len found
uncut None len = (len, omega arith, refl)
uncut (Some old) len =
    (len + length old, omega arith, ap (λ (b : List ℕ). Some b) (sym (take_all (len + length old) old (omega arith))))
