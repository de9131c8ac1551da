-- Texts that are appended one after another.
use Rattle.std.proofs.Common.{◌≡◌, ◌∙◌, ℕ, ◌+◌, ◌<◌, List, [], ◌∷◌, ◌++◌, append_assoc, ap, sym, length, get_or, take}
use Rattle.std.specs.Prelude.{flat_map}
use Rattle.std.proofs.lemmas.List.{append-nil, take_more}
use Rattle.std.proofs.lemmas.List.Concat.{flat_map-append}

pub three_more : (t a b c : List ℕ) → ((t ++ a) ++ b) ++ c ≡ t ++ (a ++ (b ++ c))
three_more t a b c = append_assoc (t ++ a) b c ∙ append_assoc t a (b ++ c)

-- one more text of a list
pub one_more : {X : Type 0} (f : X → List ℕ) (xs : List X) (i : ℕ) (x : X) (old text : List ℕ) → i < length xs
    → x ≡ get_or xs i x → text ≡ old ++ flat_map f (take i xs) → text ++ f x ≡ old ++ flat_map f (take (i + 1) xs)
one_more f xs i x old text inside is so =
    let taken : take (i + 1) xs ≡ take i xs ++ x ∷ [] =
    take_more xs i x inside ∙ ap (λ y. take i xs ++ y ∷ []) (sym is) in
    ap (λ z. z ++ f x) so ∙ append_assoc old (flat_map f (take i xs)) (f x)
    ∙ ap (λ z. old ++ (flat_map f (take i xs) ++ z)) (sym (append-nil (f x)))
    ∙ ap (λ z. old ++ z) (sym (flat_map-append f (take i xs) (x ∷ [])))
    ∙ ap (λ z. old ++ flat_map f z) (sym taken)
