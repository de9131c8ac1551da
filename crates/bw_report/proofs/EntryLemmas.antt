-- The parts of an entry.
use Rattle.std.proofs.Common.{◌≡◌, ℕ, List, ◌++◌, append_assoc, refl}

-- a digest and what chunks say below a report, below a heading
pub contents_joined : (whole upper first head report digest said : List ℕ) → whole ≡ upper ++ digest
    → upper ≡ first ++ report → first ≡ head → whole ++ said ≡ head ++ (report ++ digest ++ said)
contents_joined whole upper first head report digest said below above heads =
    rw (below, above, heads) (simp append_assoc refl)
