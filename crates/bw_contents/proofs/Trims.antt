-- Texts without white space at their end.
use Rattle.std.proofs.Common.{◌≡◌, ◌∙◌, ℕ, suc, ◌+◌, List, [], ◌∷◌, ◌++◌, length, take, drop, get_or, ◌<◌}
use Rattle.std.proofs.Common.{true, false, refl, ap, arith, sym}
use Rattle.std.specs.Prelude.{reverse}
use Rattle.std.specs.List.{prefix_len}
use Rattle.std.proofs.lemmas.List.{reverse-append, reverse-reverse, take_more}
use Rattle.bw_contents.specs.Markup.{after_white_space, is_white_space}

blank_front : (c : ℕ) (cs : List ℕ) → is_white_space c ≡ true → after_white_space (c ∷ cs) ≡ after_white_space cs
blank_front c cs test =
    let more : 1 + prefix_len is_white_space cs ≡ suc (prefix_len is_white_space cs) = omega arith in
    rw test (ap (λ (n : ℕ). drop n (c ∷ cs)) more)

other_front : (c : ℕ) (cs : List ℕ) → is_white_space c ≡ false → after_white_space (c ∷ cs) ≡ c ∷ cs
other_front c cs test = rw test refl

-- white space at the end is cut off
pub blank_end : (xs : List ℕ) (c : ℕ) → is_white_space c ≡ true
    → reverse (after_white_space (reverse (xs ++ c ∷ []))) ≡ reverse (after_white_space (reverse xs))
blank_end xs c test =
    ap (λ (r : List ℕ). reverse (after_white_space r)) (reverse-append xs (c ∷ []))
    ∙ ap reverse (blank_front c (reverse xs) test)

-- anything else isn't
pub other_end : (xs : List ℕ) (c : ℕ) → is_white_space c ≡ false
    → reverse (after_white_space (reverse (xs ++ c ∷ []))) ≡ xs ++ c ∷ []
other_end xs c test =
    ap (λ (r : List ℕ). reverse (after_white_space r)) (reverse-append xs (c ∷ []))
    ∙ ap reverse (other_front c (reverse xs) test)
    ∙ reverse-append (c ∷ []) (reverse xs) ∙ ap (λ (s : List ℕ). s ++ c ∷ []) (reverse-reverse xs)

-- the next byte is white space
pub trim_passed : (bytes : List ℕ) (i : ℕ) (kept : List ℕ) → i < length bytes → is_white_space (get_or bytes i 0) ≡ true
    → kept ≡ reverse (after_white_space (reverse (take i bytes)))
    → kept ≡ reverse (after_white_space (reverse (take (i + 1) bytes)))
trim_passed bytes i kept h test before =
    before ∙ sym (blank_end (take i bytes) (get_or bytes i 0) test)
    ∙ ap (λ (s : List ℕ). reverse (after_white_space (reverse s))) (sym (take_more bytes i 0 h))

-- it isn't
pub trim_kept : (bytes : List ℕ) (i : ℕ) → i < length bytes → is_white_space (get_or bytes i 0) ≡ false
    → take (i + 1) bytes ≡ reverse (after_white_space (reverse (take (i + 1) bytes)))
trim_kept bytes i h test =
    take_more bytes i 0 h ∙ sym (other_end (take i bytes) (get_or bytes i 0) test)
    ∙ ap (λ (s : List ℕ). reverse (after_white_space (reverse s))) (sym (take_more bytes i 0 h))
