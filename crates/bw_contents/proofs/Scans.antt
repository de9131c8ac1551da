-- Bytes that are read from the front on, up to a mark.
use Rattle.std.proofs.Common.{◌≡◌, ◌∙◌, ℕ, suc, ◌+◌, ◌-◌, ◌<◌, List, [], ◌∷◌, ◌++◌, length, take, drop, get_or}
use Rattle.std.proofs.Common.{Option, Some, None, true, false, refl, ap, arith, sym, add-one, append_assoc}
use Rattle.std.proofs.Common.{length-drop}
use Rattle.std.specs.Prelude.{option_map}
use Rattle.std.specs.Str.{bytes_eq}
use Rattle.std.proofs.Math.Seq.{drop-cons}
use Rattle.std.proofs.lemmas.List.{append-nil, take_all, take_more}
use Rattle.bw_contents.specs.Markup.{cut_at_mark}

-- with these bytes before what is before the mark
abbrev pub with_front : List ℕ → Option (List ℕ × List ℕ) → Option (List ℕ × List ℕ)
with_front front cut = option_map (λ p. (front ++ p.0, p.1)) cut

front_twice : (front : List ℕ) (c : ℕ) (cut : Option (List ℕ × List ℕ))
    → with_front front (option_map (λ p. (c ∷ p.0, p.1)) cut) ≡ with_front (front ++ c ∷ []) cut
front_twice front c None = refl
front_twice front c (Some p) =
    ap (λ (s : List ℕ). Some (s, p.1)) (sym (append_assoc front (c ∷ []) p.0))

found_here : (mark c : List ℕ) → 0 < length c → bytes_eq (take (length mark) c) mark ≡ true
    → cut_at_mark mark c ≡ Some ([], drop (length mark) c)
found_here mark [] some test = absurd (omega (arith, some))
found_here mark (c ∷ cs) some test = rw test refl

passed_here : (mark : List ℕ) (c : ℕ) (cs : List ℕ) → bytes_eq (take (length mark) (c ∷ cs)) mark ≡ false
    → cut_at_mark mark (c ∷ cs) ≡ option_map (λ p. (c ∷ p.0, p.1)) (cut_at_mark mark cs)
passed_here mark c cs test = rw test refl

-- the rest of a list, as a range up to its end
pub tail_is : (n : ℕ) (xs : List ℕ) → take (length xs - n) (drop n xs) ≡ drop n xs
tail_is n xs = take_all (length xs - n) (drop n xs) (omega (arith, length-drop n xs))

-- the mark is here
pub cut_found : (mark bytes : List ℕ) (i : ℕ) → i < length bytes
    → with_front (take i bytes) (cut_at_mark mark (drop i bytes)) ≡ cut_at_mark mark bytes
    → bytes_eq (take (length mark) (drop i bytes)) mark ≡ true
    → Some (take i bytes, drop (length mark) (drop i bytes)) ≡ cut_at_mark mark bytes
cut_found mark bytes i h before test =
    let some : 0 < length (drop i bytes) = omega (arith, length-drop i bytes, h) in
    ap (λ (f : List ℕ). Some (f, drop (length mark) (drop i bytes))) (sym (append-nil (take i bytes)))
    ∙ sym (ap (with_front (take i bytes)) (found_here mark (drop i bytes) some test))
    ∙ before

-- it isn't
pub cut_passed : (mark bytes : List ℕ) (i : ℕ) → i < length bytes
    → with_front (take i bytes) (cut_at_mark mark (drop i bytes)) ≡ cut_at_mark mark bytes
    → bytes_eq (take (length mark) (drop i bytes)) mark ≡ false
    → with_front (take (i + 1) bytes) (cut_at_mark mark (drop (i + 1) bytes)) ≡ cut_at_mark mark bytes
cut_passed mark bytes i h before test =
    let here : drop i bytes ≡ get_or bytes i 0 ∷ drop (suc i) bytes = drop-cons bytes i 0 h in
    let next : drop (i + 1) bytes ≡ drop (suc i) bytes = ap (λ (k : ℕ). drop k bytes) (add-one i) in
    ap (λ (f : List ℕ). with_front f (cut_at_mark mark (drop (i + 1) bytes))) (take_more bytes i 0 h)
    ∙ ap (λ (r : List ℕ). with_front (take i bytes ++ get_or bytes i 0 ∷ []) (cut_at_mark mark r)) next
    ∙ sym (front_twice (take i bytes) (get_or bytes i 0) (cut_at_mark mark (drop (suc i) bytes)))
    ∙ sym (ap (with_front (take i bytes))
    (ap (cut_at_mark mark) here ∙ passed_here mark (get_or bytes i 0) (drop (suc i) bytes) (rw here at test)))
    ∙ before
