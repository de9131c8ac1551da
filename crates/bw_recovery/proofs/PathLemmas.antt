-- The paths of a folder's files.
use Rattle.std.proofs.Common.{◌≡◌, ℕ, List, [], ◌∷◌, ◌++◌, length, refl, sym, ◌∙◌, ap, arith, length-append, append_assoc}
use Rattle.std.specs.Prelude.{codes, get_or, decimal}
use Rattle.std.proofs.Common.{◌<◌, ◌+◌, ◌^◌, ◌%◌}
use Rattle.std.proofs.lemmas.Fmt.{decimal_by_steps}
use Rattle.bw_recovery.specs.Changes.{IsNoWave}
use Rattle.std.proofs.lemmas.List.{append_cancel_left, append_cancel_right, get_or_at}
use Rattle.bw_disk.specs.Volumes.{in_folder}
use Rattle.bw_recovery.specs.Paths.{path_with, wave_path, notes_path}

-- a file's name in a folder is its stem and its ending
pub path_listed : (folder ending name : List ℕ) → in_folder folder (name ++ ending) ≡ path_with folder ending name
unfolding in_folder path_with
path_listed folder ending name = sym (append_assoc (folder ++ codes "/") name ending)

-- distinct names have distinct paths
pub path_name : (folder ending a b : List ℕ) → path_with folder ending a ≡ path_with folder ending b → a ≡ b
unfolding path_with
path_name folder ending a b e =
    append_cancel_left (folder ++ codes "/") a b
    (append_cancel_right (folder ++ codes "/" ++ a) (folder ++ codes "/" ++ b) ending e)

last_same : (xs ys : List ℕ) (x y : ℕ) → xs ++ x ∷ [] ≡ ys ++ y ∷ [] → x ≡ y
last_same xs ys x y e =
    let n : length xs ≡ length ys = omega (arith, ap length e, length-append xs (x ∷ []), length-append ys (y ∷ [])) in
    sym (get_or_at xs x [] 0 (length xs) refl) ∙ ap (λ (zs : List ℕ). get_or zs (length xs) 0) e
    ∙ get_or_at ys y [] 0 (length xs) (sym n)

-- a path ends as its ending does
ends : (folder name stem : List ℕ) (x : ℕ) →
    path_with folder (stem ++ x ∷ []) name ≡ (folder ++ codes "/" ++ name ++ stem) ++ x ∷ []
unfolding path_with
ends folder name stem x = sym (append_assoc (folder ++ codes "/" ++ name) stem (x ∷ []))

-- endings with other last bytes make other paths
pub paths_apart : (folder a b s t : List ℕ) (x y : ℕ) →
    path_with folder (s ++ x ∷ []) a ≡ path_with folder (t ++ y ∷ []) b → x ≡ y
paths_apart folder a b s t x y e =
    last_same (folder ++ codes "/" ++ a ++ s) (folder ++ codes "/" ++ b ++ t) x y
    (sym (ends folder a s x) ∙ e ∙ ends folder b t y)

-- no take is at the path of a journal
pub wave_no_notes : (folder a b : List ℕ) → wave_path folder a ≡ notes_path folder b → ⊥
wave_no_notes folder a b e =
    let same : 118 ≡ 108 = paths_apart folder a b (codes ".wa") (codes ".journa") 118 108 e in
    omega (arith, same)

-- a number ends in a digit
record EndsInDigit (ds : List ℕ) : Type 0 where
  stem : List ℕ
  last : ℕ
  at : ds ≡ stem ++ last ∷ []
  digit : last < 58

decimal_ends : (n : ℕ) → n < 2 ^ 64 → EndsInDigit (decimal n)
decimal_ends n h =
    decimal_by_steps (λ m ds. EndsInDigit ds)
    (λ m below. record { stem = []; last = 48 + m; at = refl; digit = omega arith })
    (λ m ds big more. record { stem = ds; last = 48 + m % 10; at = refl; digit = omega arith }) n h

-- where files are set aside, no take's file is
pub torn_no_wave : (text folder name : List ℕ) → text ≡ codes ".torn" → IsNoWave folder (path_with folder text name)
torn_no_wave text folder name e other same =
    let q : 110 ≡ 118 = paths_apart folder name other (codes ".tor") (codes ".wa") 110 118
    (ap (λ (t : List ℕ). path_with folder t name) (sym e) ∙ same) in
    omega (arith, q)

pub numbered_no_wave : (n : ℕ) (text folder name : List ℕ) → n < 2 ^ 64 → text ≡ codes ".torn" ++ decimal n →
    IsNoWave folder (path_with folder text name)
numbered_no_wave n text folder name h e other same =
    let d = decimal_ends n h in
    let at : text ≡ (codes ".torn" ++ d.stem) ++ d.last ∷ [] =
    e ∙ ap (λ (x : List ℕ). codes ".torn" ++ x) d.at ∙ sym (append_assoc (codes ".torn") d.stem (d.last ∷ [])) in
    let q : d.last ≡ 118 = paths_apart folder name other (codes ".torn" ++ d.stem) (codes ".wa") d.last 118
    (ap (λ (t : List ℕ). path_with folder t name) (sym at) ∙ same) in
    omega (arith, q, d.digit)
