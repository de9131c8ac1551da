-- Sessions of which nothing waits.
use Rattle.std.proofs.Common.{◌≡◌, ℕ, zero, suc, ◌+◌, Bool, true, false, List, [], ◌∷◌, take, Option, Some, None, refl, sym, ap, arith}
use Rattle.std.specs.Prelude.{count_by, is_some, option_map}
use Rattle.std.specs.Bool.{MatchBool}
use Rattle.bw_model.specs.Bytes.{at}
use Rattle.bw_session.proofs.ReportForms.{count_more}

never : {A : Type 0} → false ≡ true → A
never e = absurd cc

-- where nothing is held, nothing is
pub none_held : (xs : List (Option (List ℕ))) → count_by is_some xs ≡ 0 → (i : ℕ) → at xs i ≡ None
none_held [] e i = refl
none_held (None ∷ xs) e zero = refl
none_held (None ∷ xs) e (suc i) =
    let more : count_by is_some (None ∷ xs) ≡ 0 + count_by is_some xs = count_more None xs in
    none_held xs (omega (arith, more, e)) i
none_held (Some x ∷ xs) e i =
    let more : count_by is_some (Some x ∷ xs) ≡ 1 + count_by is_some xs = count_more (Some x) xs in
    absurd (omega (arith, more, e))

no_some : {A B : Type 0} {b : B} → None ≡ Some b → A
no_some e = cc

pub unmapped : {A B : Type 0} (f : A → B) (o : Option A) → None ≡ option_map f o → o ≡ None
unmapped f None e = refl
unmapped f (Some x) e = no_some e

pub take_none : (n : ℕ) (xs : List ℕ) → xs ≡ [] → take n xs ≡ []
take_none zero xs e = refl
take_none (suc n) xs e = ap (take (suc n)) e

-- a clean file
pub clean_or : (dirty : Bool) (A B : Type 0) → dirty ≡ false → MatchBool dirty A B → B
clean_or true A B e h = never (sym e)
clean_or false A B e h = h
