-- What a mending leaves of a file.
use Rattle.std.proofs.Common.{◌≡◌, ℕ, zero, suc, ◌+◌, ◌%◌, ◌<◌, ◌≤◌, ◌↔◌, Bool, true, false, not, cond, List, [], ◌∷◌, ◌++◌}
use Rattle.std.proofs.Common.{length, take, drop, IsTrue, Option, Some, refl, sym, ◌∙◌, ap, arith, append_assoc}
use Rattle.std.proofs.Common.{length-append, length-drop}
use Rattle.std.specs.Prelude.{slice_get}
use Rattle.std.specs.Str.{bytes_eq}
use Rattle.std.proofs.lemmas.List.{take-append-drop, append-nil, get_or-drop}
use Rattle.std.proofs.lemmas.Option.{slice_get_within, get_or_from_slice_get}
use Rattle.std.proofs.Math.Seq.{take-append-add, take-suc}
use Rattle.bw_model.specs.Bytes.{zeros}
use Rattle.bw_model.specs.Layout.{pad}
use Rattle.bw_model.proofs.BookLemmas.{same_name}
use Rattle.bw_recovery.specs.Adoptions.{with_header, shortened, with_pad}

not_true : (b : Bool) → false ≡ not b → b ≡ true
not_true true e = refl
not_true false e = absurd cc

-- with its header written, or with one that is there
headed : (h : Bool) (hd found : List ℕ) (place : ℕ) → length hd ≡ place → h ≡ not (bytes_eq (take place found) hd) →
    with_header h hd found ≡ hd ++ drop place found
headed true hd found place l e = ap (λ (n : ℕ). hd ++ drop n found) l
headed false hd found place l e =
    sym (take-append-drop place found)
    ∙ ap (λ (z : List ℕ). z ++ drop place found) (same_name (take place found) hd (not_true _ e))

take_past : (hd rest : List ℕ) (place n k : ℕ) → length hd ≡ place →
    take (place + n + k) (hd ++ rest) ≡ hd ++ take (n + k) rest
take_past hd rest place n k l =
    let e : place + n + k ≡ length hd + (n + k) = omega (arith, l) in
    ap (λ (m : ℕ). take m (hd ++ rest)) e ∙ take-append-add hd rest (n + k)

-- a byte that is read after the samples
one_more : (found : List ℕ) (place n : ℕ) → slice_get found (place + n) ≡ Some 0 →
    take (n + 1) (drop place found) ≡ take n (drop place found) ++ 0 ∷ []
one_more found place n e =
    let rest = drop place found in
    let within : place + n < length found = slice_get_within found (place + n) 0 e in
    let len = length-drop place found in
    let next : n + 1 ≡ suc n = omega arith in
    ap (λ (m : ℕ). take m rest) next
    ∙ take-suc rest n 0 (omega (arith, len, within))
    ∙ ap (λ (x : ℕ). take n rest ++ x ∷ [])
    (get_or-drop place found n 0 ∙ get_or_from_slice_get found (place + n) 0 0 e)

-- the end of a mended file, by whether its samples are odd, whether a pad byte is there, and whether
-- one is lacking
ended : (odd : ℕ) (padded lacks : Bool) (found : List ℕ) (place n : ℕ) → n % 2 ≡ odd → odd < 2 →
    (IsTrue padded ↔ (n % 2 ≡ 1) × (slice_get found (place + n) ≡ Some 0)) →
    (IsTrue lacks ↔ (n % 2 ≡ 1) × (slice_get found (place + n) ≡ Some 0 → ⊥)) →
    (hd : List ℕ) →
    with_pad lacks (hd ++ take (n + cond padded 1 0) (drop place found)) ≡ hd ++ (take n (drop place found) ++ zeros odd)
ended odd true true found place n e o p l hd = absurd ((l.0 refl).1 (p.0 refl).1)
ended zero true false found place n e o p l hd = let q = (p.0 refl).0 in absurd (omega (arith, e, q))
ended zero false true found place n e o p l hd = let q = (l.0 refl).0 in absurd (omega (arith, e, q))
ended zero false false found place n e o p l hd =
    let k : n + 0 ≡ n = omega arith in
    ap (λ (m : ℕ). hd ++ take m (drop place found)) k
    ∙ ap (λ (z : List ℕ). hd ++ z) (sym (append-nil (take n (drop place found))))
ended (suc zero) true false found place n e o p l hd =
    ap (λ (z : List ℕ). hd ++ z) (one_more found place n (p.0 refl).1)
ended (suc zero) false true found place n e o p l hd =
    let k : n + 0 ≡ n = omega arith in
    ap (λ (m : ℕ). (hd ++ take m (drop place found)) ++ 0 ∷ []) k
    ∙ append_assoc hd (take n (drop place found)) (0 ∷ [])
ended (suc zero) false false found place n e o p l hd =
    absurd (neither (slice_get found (place + n)) (λ s. false_true (p.1 (e, s))) (λ s. false_true (l.1 (e, s))))
  where
    false_true : false ≡ true → ⊥
    false_true h = cc

    neither : (x : Option ℕ) → (x ≡ Some 0 → ⊥) → ((x ≡ Some 0 → ⊥) → ⊥) → ⊥
    neither x a b = b a
ended (suc (suc odd)) padded lacks found place n e o p l hd = absurd (omega (arith, o))

-- a file with its samples, mended by what was read of it
pub patches : (hd found : List ℕ) (place n kept : ℕ) (h padded lacks : Bool) (cut : Option ℕ) → length hd ≡ place →
    place + n ≤ length found → h ≡ not (bytes_eq (take place found) hd) →
    (IsTrue padded ↔ (n % 2 ≡ 1) × (slice_get found (place + n) ≡ Some 0)) →
    (IsTrue lacks ↔ (n % 2 ≡ 1) × (slice_get found (place + n) ≡ Some 0 → ⊥)) →
    kept ≡ place + n + cond padded 1 0 →
    ((file : List ℕ) → length found ≡ length file → shortened cut file ≡ take kept file) →
    with_pad lacks (shortened cut (with_header h hd found)) ≡ hd ++ (take n (drop place found) ++ pad n)
patches hd found place n kept h padded lacks cut l long e p q k c =
    let rest = drop place found in
    let len : length found ≡ length (hd ++ rest) =
    (let a = length-append hd rest in let b = length-drop place found in omega (arith, a, b, l, long)) in
    ap (λ (z : List ℕ). with_pad lacks (shortened cut z)) (headed h hd found place l e)
    ∙ ap (with_pad lacks) (c (hd ++ rest) len ∙ ap (λ (m : ℕ). take m (hd ++ rest)) k
    ∙ take_past hd rest place n (cond padded 1 0) l)
    ∙ ended (n % 2) padded lacks found place n refl (omega arith) p q hd
