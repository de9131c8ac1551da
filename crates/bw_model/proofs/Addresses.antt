-- A name and a number after a kind byte: what is read is what was spelled, and conversely.
use Rattle.std.proofs.Common.{◌≡◌, ℕ, suc, ◌+◌, ◌^◌, ◌<◌, ◌≤◌, true, false, not, List, [], ◌∷◌, ◌++◌, length, take}
use Rattle.std.proofs.Common.{drop, refl, sym, ap, ◌∙◌, arith, one-add}
use Rattle.std.specs.Prelude.{nat_lt, nat_le}
use Rattle.std.specs.Int.{w32}
use Rattle.std.proofs.lemmas.Bool.{or_parts, or_from, not-false, not_from_true, ltb-false, le-ltb, le-leb}
use Rattle.std.proofs.lemmas.List.{take_at, drop_at, take-append-drop, length-take-le, length-append}
use Rattle.bw_model.specs.Bytes.{le32, u32_at}
use Rattle.bw_model.specs.Wire.{are_bytes, is_name, name_in, after_name, number_in, payload_in, is_name_bad}
use Rattle.bw_model.specs.Wire.{is_number_bad}
use Rattle.bw_model.proofs.ByteNumbers.{are_bytes-parts, wide32, written-number_at, number_at-written}

pub name_in-cons : (n : ℕ) (xs : List ℕ) → name_in (n ∷ xs) ≡ take n xs
name_in-cons n xs = ap (λ (k : ℕ). take k xs) (omega arith)

pub after_name-cons : (n : ℕ) (xs : List ℕ) → after_name (n ∷ xs) ≡ drop n xs
after_name-cons n xs = ap (λ (k : ℕ). drop k (n ∷ xs)) (one-add n)

-- bytes that begin with a name and a number, and what follows these
pub record IsAddressed (rest : List ℕ) : Type 0 where
  pub spelled : rest ≡ length (name_in rest) ∷ (name_in rest ++ (le32 (number_in rest) ++ payload_in rest))
  pub named : is_name (name_in rest) ≡ true
  pub payload_fits : are_bytes (payload_in rest) ≡ true

addressed_cons : (n : ℕ) (xs : List ℕ) → are_bytes (n ∷ xs) ≡ true → is_name_bad (n ∷ xs) ≡ false →
    nat_lt (length (after_name (n ∷ xs))) 4 ≡ false → IsAddressed (n ∷ xs)
addressed_cons n xs fits name_ok number_ok =
    let tests = or_parts (nat_lt (suc (length xs)) (1 + n)) (not (is_name (name_in (n ∷ xs)))) name_ok in
    let within : 1 + n ≤ suc (length xs) = ltb-false (suc (length xs)) (1 + n) tests.0 in
    let len : length (take n xs) ≡ n = length-take-le n xs (omega arith) in
    let long : 4 ≤ length (after_name (n ∷ xs)) = ltb-false (length (after_name (n ∷ xs))) 4 number_ok in
    let rest_fits : are_bytes (after_name (n ∷ xs)) ≡ true = (are_bytes-parts (1 + n) (n ∷ xs) fits).1 in
    let number = (written-number_at w32 (2 ^ 32) wide32 (after_name (n ∷ xs)) 0 rest_fits long).0 in
    record {
      spelled =
          ap (λ (x : List ℕ). n ∷ x) (sym (take-append-drop n xs))
          ∙ ap (λ (k : ℕ). k ∷ (take n xs ++ drop n xs)) (sym len)
          ∙ ap (λ (x : List ℕ). length x ∷ (x ++ drop n xs)) (sym (name_in-cons n xs))
          ∙ ap (λ (x : List ℕ). length (name_in (n ∷ xs)) ∷ (name_in (n ∷ xs) ++ x))
          (sym (after_name-cons n xs) ∙ sym number);
      named = not-false (is_name (name_in (n ∷ xs))) tests.1;
      payload_fits = (are_bytes-parts 4 (after_name (n ∷ xs)) rest_fits).1;
    }

-- bytes with no fault in name and number
pub addressed_from_tests : (last : ℕ) (rest : List ℕ) → are_bytes rest ≡ true → is_name_bad rest ≡ false →
    is_number_bad last rest ≡ false → IsAddressed rest × (nat_le (number_in rest) last ≡ true)
addressed_from_tests last rest fits name_ok number_ok =
    let tests = or_parts (nat_lt (length (after_name rest)) 4) (nat_lt last (number_in rest)) number_ok in
    (go rest fits name_ok tests.0, le-leb (number_in rest) last (ltb-false last (number_in rest) tests.1))
  where
    go : (rest : List ℕ) → are_bytes rest ≡ true → is_name_bad rest ≡ false →
        nat_lt (length (after_name rest)) 4 ≡ false → IsAddressed rest
    go [] fits name_ok number_ok = absurd cc
    go (n ∷ xs) fits name_ok number_ok = addressed_cons n xs fits name_ok number_ok

-- what is read of a name, a number and what follows them
pub record ReadsAddressed (rest name : List ℕ) (number : ℕ) (payload : List ℕ) : Type 0 where
  pub name_is : name_in rest ≡ name
  pub number_is : number_in rest ≡ number
  pub payload_is : payload_in rest ≡ payload
  pub name_good : is_name_bad rest ≡ false
  pub long : nat_lt (length (after_name rest)) 4 ≡ false

pub reads-addressed : (name : List ℕ) (number : ℕ) (payload : List ℕ) → is_name name ≡ true → number < 2 ^ 32
    → ReadsAddressed (length name ∷ (name ++ (le32 number ++ payload))) name number payload
reads-addressed name number payload named below =
    let more = le32 number ++ payload in
    let rest = length name ∷ (name ++ more) in
    let name_is : name_in rest ≡ name =
    name_in-cons (length name) (name ++ more) ∙ take_at name more (length name) refl in
    let after_is : after_name rest ≡ more =
    after_name-cons (length name) (name ++ more) ∙ drop_at name more (length name) refl in
    record {
      name_is = name_is;
      number_is = ap (λ (b : List ℕ). u32_at b 0) after_is
          ∙ number_at-written w32 (2 ^ 32) wide32 number payload below;
      payload_is = ap (drop 4) after_is;
      name_good =
          or_from (nat_lt (length rest) (1 + length name)) (not (is_name (name_in rest)))
          (le-ltb (length rest) (1 + length name) (omega (arith, length-append name more)))
          (not_from_true (is_name (name_in rest)) (ap is_name name_is ∙ named));
      long = ap (λ (b : List ℕ). nat_lt (length b) 4) after_is ∙ le-ltb (length more) 4 (omega arith);
    }
