-- The bytes of names: files of such names are listed in a folder.
use Rattle.std.proofs.Common.{◌≡◌, ◌≢◌, inl, inr, ℕ, zero, suc, ◌<◌, ◌≤◌, Bool, true, false, not, ◌&&◌, ◌||◌, List, [], ◌∷◌, ◌++◌, length}
use Rattle.std.proofs.Common.{refl, sym, ◌∙◌, ap, subst, arith, IsTrue}
use Rattle.std.specs.Prelude.{◌==◌, nat_le, nat_lt, codes, IsUtf8}
use Rattle.std.specs.List.{list_all}
use Rattle.std.specs.Str.{IsAscii}
use Rattle.std.proofs.lemmas.Bool.{and_parts, and_from, or_cases, leb-true, ltb-true, eqb-true}
use Rattle.std.proofs.lemmas.Str.{IsUtf8-append, IsUtf8-from_ascii}
use Rattle.std.proofs.lemmas.Str.Ascii.{IsAscii-nil}
use Rattle.std.proofs.lemmas.List.Folds.{list_all-append}
use Rattle.bw_model.specs.Bytes.{is_within}
use Rattle.bw_model.specs.Wire.{is_name, is_name_byte}
use Rattle.bw_disk.specs.Volumes.{is_listed}

-- A byte of a name is ASCII, and no dot and no slash.
record IsPlain (c : ℕ) : Type 0 where
  small : c < 128
  no_dot : c ≢ 46
  no_slash : c ≢ 47

plain : (c : ℕ) → is_name_byte c ≡ true → IsPlain c
plain c h =
    elim (or_cases (is_within 97 122 c || is_within 48 57 c || (c == 45)) (c == 95) h) [
      | inr line ↦ at 95 (eqb-true c 95 line) (omega arith) (omega arith) (omega arith)
      | inl more ↦ elim (or_cases (is_within 97 122 c || is_within 48 57 c) (c == 45) more) [
        | inr dash ↦ at 45 (eqb-true c 45 dash) (omega arith) (omega arith) (omega arith)
        | inl most ↦ elim (or_cases (is_within 97 122 c) (is_within 48 57 c) most) [
          | inl letter ↦ within 97 122 letter (omega arith) (omega arith)
          | inr digit ↦ within 48 57 digit (omega arith) (omega arith)
        ]
      ]
    ]
  where
    at : (n : ℕ) → c ≡ n → n < 128 → n ≢ 46 → n ≢ 47 → IsPlain c
    at n e s d l = record {
      small = subst (λ (m : ℕ). m < 128) (sym e) s;
      no_dot = λ q. d (sym e ∙ q);
      no_slash = λ q. l (sym e ∙ q);
    }

    within : (low high : ℕ) → is_within low high c ≡ true → 47 < low → high < 128 → IsPlain c
    within low high w above below =
        let b = and_parts (nat_le low c) (nat_le c high) w in
        let l : low ≤ c = leb-true low c b.0 in
        let u : c ≤ high = leb-true c high b.1 in
        record {
          small = omega (arith, u, below);
          no_dot = λ q. omega (arith, l, above, q);
          no_slash = λ q. omega (arith, l, above, q);
        }

differs : (a b : ℕ) → a ≢ b → not (a == b) ≡ true
differs a b d = go (a == b) refl
  where
    go : (v : Bool) → (a == b) ≡ v → not v ≡ true
    go true e = absurd (d (eqb-true a b e))
    go false e = refl

no_slashes : (xs : List ℕ) → list_all is_name_byte xs ≡ true → list_all (λ b. not (b == 47)) xs ≡ true
no_slashes [] h = refl
no_slashes (c ∷ xs) h =
    let p = and_parts (is_name_byte c) (list_all is_name_byte xs) h in
    and_from (not (c == 47)) (list_all (λ b. not (b == 47)) xs) (differs c 47 (plain c p.0).no_slash) (no_slashes xs p.1)

ascii : (xs : List ℕ) → list_all is_name_byte xs ≡ true → IsAscii xs
ascii [] h = IsAscii-nil
ascii (c ∷ xs) h = go (ascii xs p.1)
  where
    p : (is_name_byte c ≡ true) × (list_all is_name_byte xs ≡ true)
    p = and_parts (is_name_byte c) (list_all is_name_byte xs) h

    go : IsAscii xs → IsAscii (c ∷ xs)
    go more zero = (plain c p.0).small
    go more (suc i) = more i

pub small_ascii : (xs : List ℕ) → list_all (λ b. nat_lt b 128) xs ≡ true → IsAscii xs
small_ascii [] h = IsAscii-nil
small_ascii (c ∷ xs) h = go (small_ascii xs p.1)
  where
    p : (nat_lt c 128 ≡ true) × (list_all (λ b. nat_lt b 128) xs ≡ true)
    p = and_parts (nat_lt c 128) (list_all (λ b. nat_lt b 128) xs) h

    go : IsAscii xs → IsAscii (c ∷ xs)
    go more zero = ltb-true c 128 p.0
    go more (suc i) = more i

-- the journal of a name has a name in UTF-8
pub journal_is_utf8 : (name : List ℕ) → IsTrue (is_name name) → IsUtf8 (name ++ codes ".journal")
journal_is_utf8 name h =
    IsUtf8-append name (codes ".journal")
    (IsUtf8-from_ascii name (ascii name (and_parts (is_within 1 32 (length name)) (list_all is_name_byte name) h).1))
    (IsUtf8-from_ascii (codes ".journal") (small_ascii (codes ".journal") refl))

-- a name with an ending that has no slash is listed
listed_with : (ending name : List ℕ) → list_all (λ b. not (b == 47)) ending ≡ true → IsTrue (is_name name) →
    is_listed (name ++ ending) ≡ true
listed_with ending [] none h = absurd cc
listed_with ending (c ∷ xs) none h =
    let p = and_parts (is_within 1 32 (length (c ∷ xs))) (list_all is_name_byte (c ∷ xs)) h in
    let q = and_parts (is_name_byte c) (list_all is_name_byte xs) p.1 in
    and_from (not (c == 46)) (list_all (λ b. not (b == 47)) (c ∷ xs ++ ending)) (differs c 46 (plain c q.0).no_dot)
    (list_all-append (λ b. not (b == 47)) (c ∷ xs) ending
    ∙ ap (λ (v : Bool). v && list_all (λ b. not (b == 47)) ending) (no_slashes (c ∷ xs) p.1) ∙ none)

pub journal_is_listed : (name : List ℕ) → IsTrue (is_name name) → is_listed (name ++ codes ".journal") ≡ true
journal_is_listed name h = listed_with (codes ".journal") name refl h
