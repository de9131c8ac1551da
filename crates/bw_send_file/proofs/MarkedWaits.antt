-- The markers that wait.
use Rattle.std.proofs.Common.{◌≡◌, ℕ, suc, ◌+◌, ◌<◌, ◌≤◌, List, [], ◌∷◌, ◌++◌, length, drop, map, get_or, sym, ◌∙◌, ap, arith, drop-cons}
use Rattle.std.proofs.lemmas.List.{drop_all}
use Rattle.bw_model.specs.Take.{Request}
use Rattle.bw_plan.specs.Plans.{mark_request}

-- the first of those that wait
pub mark_first : (items : List (ℕ × ℕ)) (n : ℕ) (p : ℕ × ℕ) (rest : List Request) → n < length items →
    p ≡ get_or items n p →
    map mark_request (drop n items) ++ rest ≡ mark_request p ∷ (map mark_request (drop (n + 1) items) ++ rest)
mark_first items n p rest h e =
    let next : suc n ≡ n + 1 = omega arith in
    ap (λ (z : List (ℕ × ℕ)). map mark_request z ++ rest)
    (drop-cons items n p h
    ∙ ap (λ (q : ℕ × ℕ). q ∷ drop (suc n) items) (sym e)
    ∙ ap (λ (k : ℕ). p ∷ drop k items) next)

-- none waits
pub none_wait : (items : List (ℕ × ℕ)) (n : ℕ) (rest : List Request) → length items ≤ n → rest ≡ [] →
    map mark_request (drop n items) ++ rest ≡ []
none_wait items n rest h none = ap (λ (z : List (ℕ × ℕ)). map mark_request z ++ rest) (drop_all n items h) ∙ none

-- CLOSE alone waits
pub close_waits : (items : List (ℕ × ℕ)) (n : ℕ) (rest : List Request) → length items ≤ n →
    map mark_request (drop n items) ++ rest ≡ rest
close_waits items n rest h = ap (λ (z : List (ℕ × ℕ)). map mark_request z ++ rest) (drop_all n items h)
