-- The paths of journals in a folder.
use Rattle.std.proofs.Common.{◌≡◌, ◌≢◌, ◌∙◌, List, ℕ, ◌+◌, ◌++◌, codes, length, get_or, sym, ap, arith}
use Rattle.std.proofs.lemmas.List.{append_cancel_left, append_cancel_right, length-append, get_or-append-add}
use Rattle.bw_folder.specs.Folders.{take_path}
use Rattle.bw_folder.specs.Journals.{journal_path}

-- distinct names have journals at distinct paths
pub journal_path_injective : (folder a b : List ℕ) → journal_path folder a ≡ journal_path folder b → a ≡ b
unfolding journal_path
journal_path_injective folder a b e =
    let head = folder ++ codes "/" in
    append_cancel_left head a b (append_cancel_right (head ++ a) (head ++ b) (codes ".journal") e)

endings : (xs ys : List ℕ) → xs ++ codes ".wav" ≡ ys ++ codes ".journal" → ⊥
endings xs ys e =
    let left : length (xs ++ codes ".wav") ≡ length xs + 4 = length-append xs (codes ".wav") in
    let right : length (ys ++ codes ".journal") ≡ length ys + 8 = length-append ys (codes ".journal") in
    let both : length (xs ++ codes ".wav") ≡ length (ys ++ codes ".journal") = ap length e in
    let place : length xs + 3 ≡ length ys + 7 = omega (arith, left, right, both) in
    let a : get_or (xs ++ codes ".wav") (length xs + 3) 0 ≡ 118 = get_or-append-add xs (codes ".wav") 3 0 in
    let b : get_or (ys ++ codes ".journal") (length ys + 7) 0 ≡ 108 = get_or-append-add ys (codes ".journal") 7 0 in
    let same : 118 ≡ 108 =
    sym a ∙ ap (λ (z : List ℕ). get_or z (length xs + 3) 0) e
    ∙ ap (λ (n : ℕ). get_or (ys ++ codes ".journal") n 0) place ∙ b in
    omega (arith, same)

-- no take's file is a journal
pub paths_apart : (folder a b : List ℕ) → take_path folder a ≢ journal_path folder b
unfolding take_path journal_path
paths_apart folder a b e = endings ((folder ++ codes "/") ++ a) ((folder ++ codes "/") ++ b) e
