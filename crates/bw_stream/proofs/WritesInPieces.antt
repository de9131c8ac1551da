-- Bytes that are written in pieces.
use Rattle.std.proofs.Common.{◌≡◌, ℕ, ◌+◌, List, ◌++◌, take, drop, Option, Some, sym, ap, ◌∙◌, append_assoc}
use Rattle.std.proofs.lemmas.List.{take-append-drop}
use Rattle.std.proofs.Math.Seq.{take-add}
use Rattle.bw_stream.specs.Moves.{IsWrittenInPart}

-- n more of the bytes after the first d of them
pub append-take-drop : (ys xs : List ℕ) (d n : ℕ) → (ys ++ take d xs) ++ take n (drop d xs) ≡ ys ++ take (d + n) xs
append-take-drop ys xs d n =
    append_assoc ys (take d xs) (take n (drop d xs)) ∙ ap (λ (zs : List ℕ). ys ++ zs) (sym (take-add d n xs))

-- the first d of the bytes are a prefix
pub begun-take : (ys xs : List ℕ) (d : ℕ) (w : Option (List ℕ)) → w ≡ Some (ys ++ take d xs) → IsWrittenInPart ys xs w
begun-take ys xs d w e = record { part = take d xs; rest = drop d xs; whole = take-append-drop d xs; stands = e }
