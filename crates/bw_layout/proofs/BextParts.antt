-- The fixed part of `bext`, cut at each field.
use Rattle.std.proofs.Common.{◌≡◌, ℕ, List, [], ◌∷◌, ◌++◌, length, map, Bool, true, false, cond, refl, ◌∙◌}
use Rattle.std.proofs.Common.{ap, arith, append_assoc, length-append}
use Rattle.std.specs.List.{concat, list_all, sum}
use Rattle.std.specs.Str.{bytes_eq}
use Rattle.std.proofs.lemmas.List.{append-nil}
use Rattle.bw_model.specs.Bytes.{le16, zeros}
use Rattle.bw_model.specs.Take.{AreFields, not_given}
use Rattle.bw_model.proofs.Widths.{length-concat}

-- the widths of seven fields, and of the five of the loudness
pub record Widths (a b c d e t u : List ℕ) (levels : List (List ℕ)) : Type 0 where
  pub a-width : length a ≡ 256
  pub b-width : length b ≡ 32
  pub c-width : length c ≡ 32
  pub d-width : length d ≡ 10
  pub e-width : length e ≡ 8
  pub t-width : length t ≡ 8
  pub u-width : length u ≡ 64
  pub level-widths : map length levels ≡ 2 ∷ 2 ∷ 2 ∷ 2 ∷ 2 ∷ []

-- what holds of named fields holds of all
pub by_name : (P : List (List ℕ) → Type 0) →
    ((a b c d e t u : List ℕ) (levels : List (List ℕ)) → Widths a b c d e t u levels →
    P (a ∷ b ∷ c ∷ d ∷ e ∷ t ∷ u ∷ levels)) →
    (fields : List (List ℕ)) → AreFields fields → P fields
by_name P named [] h = cc
by_name P named (a ∷ []) h = cc
by_name P named (a ∷ b ∷ []) h = cc
by_name P named (a ∷ b ∷ c ∷ []) h = cc
by_name P named (a ∷ b ∷ c ∷ d ∷ []) h = cc
by_name P named (a ∷ b ∷ c ∷ d ∷ e ∷ []) h = cc
by_name P named (a ∷ b ∷ c ∷ d ∷ e ∷ t ∷ []) h = cc
by_name P named (a ∷ b ∷ c ∷ d ∷ e ∷ t ∷ u ∷ levels) h =
    named a b c d e t u levels
    (record {
      a-width = cc;
      b-width = cc;
      c-width = cc;
      d-width = cc;
      e-width = cc;
      t-width = cc;
      u-width = cc;
      level-widths = cc;
    })

-- the fixed part with its ends, cut at each field

abbrev pub fixed : (p a b c d e t v u l z q : List ℕ) → List ℕ
fixed p a b c d e t v u l z q = p ++ (((a ++ (b ++ (c ++ (d ++ (e ++ (t ++ [])))))) ++ v ++ (u ++ []) ++ l ++ z) ++ q)

pub cut1 : (p a b c d e t v u l z q : List ℕ) →
    fixed p a b c d e t v u l z q ≡ p ++ (a ++ (b ++ c ++ d ++ e ++ t ++ v ++ u ++ l ++ z ++ q))
cut1 p a b c d e t v u l z q = simp (append_assoc, append-nil)

pub cut2 : (p a b c d e t v u l z q : List ℕ) →
    fixed p a b c d e t v u l z q ≡ (p ++ a) ++ (b ++ (c ++ d ++ e ++ t ++ v ++ u ++ l ++ z ++ q))
cut2 p a b c d e t v u l z q = simp (append_assoc, append-nil)

pub cut3 : (p a b c d e t v u l z q : List ℕ) →
    fixed p a b c d e t v u l z q ≡ (p ++ a ++ b) ++ (c ++ (d ++ e ++ t ++ v ++ u ++ l ++ z ++ q))
cut3 p a b c d e t v u l z q = simp (append_assoc, append-nil)

pub cut4 : (p a b c d e t v u l z q : List ℕ) →
    fixed p a b c d e t v u l z q ≡ (p ++ a ++ b ++ c) ++ (d ++ (e ++ t ++ v ++ u ++ l ++ z ++ q))
cut4 p a b c d e t v u l z q = simp (append_assoc, append-nil)

pub cut5 : (p a b c d e t v u l z q : List ℕ) →
    fixed p a b c d e t v u l z q ≡ (p ++ a ++ b ++ c ++ d) ++ (e ++ (t ++ v ++ u ++ l ++ z ++ q))
cut5 p a b c d e t v u l z q = simp (append_assoc, append-nil)

pub cut6 : (p a b c d e t v u l z q : List ℕ) →
    fixed p a b c d e t v u l z q ≡ (p ++ a ++ b ++ c ++ d ++ e) ++ (t ++ (v ++ u ++ l ++ z ++ q))
cut6 p a b c d e t v u l z q = simp (append_assoc, append-nil)

pub cut7 : (p a b c d e t v u l z q : List ℕ) →
    fixed p a b c d e t v u l z q ≡ (p ++ a ++ b ++ c ++ d ++ e ++ t ++ v) ++ (u ++ (l ++ z ++ q))
cut7 p a b c d e t v u l z q = simp (append_assoc, append-nil)

pub cut8 : (p a b c d e t v u l z q : List ℕ) →
    fixed p a b c d e t v u l z q ≡ (p ++ a ++ b ++ c ++ d ++ e ++ t) ++ ((v ++ u ++ l) ++ (z ++ q))
cut8 p a b c d e t v u l z q = simp (append_assoc, append-nil)

-- what Version and the loudness are, by the five fields of the loudness
abbrev pub version_1 : List (List ℕ) → Bool
version_1 levels = list_all (λ v. bytes_eq v not_given) levels

abbrev pub version : List (List ℕ) → List ℕ
version levels = cond (version_1 levels) (le16 1) (le16 2)

abbrev pub loudness : List (List ℕ) → List ℕ
loudness levels = cond (version_1 levels) (zeros 10) (concat levels)

pub length-version : (levels : List (List ℕ)) → length (version levels) ≡ 2
length-version levels = go (version_1 levels)
  where
    go : (v : Bool) → length (cond v (le16 1) (le16 2)) ≡ 2
    go true = refl
    go false = refl

pub length-loudness : (levels : List (List ℕ)) → map length levels ≡ 2 ∷ 2 ∷ 2 ∷ 2 ∷ 2 ∷ [] →
    length (loudness levels) ≡ 10
length-loudness levels widths = go (version_1 levels)
  where
    go : (v : Bool) → length (cond v (zeros 10) (concat levels)) ≡ 10
    go true = refl
    go false = length-concat levels ∙ ap sum widths

-- the seven fields before the loudness
pub texts-length : (p a b c d e t u : List ℕ) (levels : List (List ℕ)) → length p ≡ 80 → Widths a b c d e t u levels →
    length (p ++ a ++ b ++ c ++ d ++ e ++ t) ≡ 426
texts-length p a b c d e t u levels p-length w =
    simp length-append (omega (arith, p-length, w.a-width, w.b-width, w.c-width, w.d-width, w.e-width, w.t-width))

pub wide-length : (a b c d e t u : List ℕ) (levels : List (List ℕ)) → Widths a b c d e t u levels →
    length (version levels ++ u ++ loudness levels) ≡ 76
wide-length a b c d e t u levels w =
    simp length-append (omega (arith, length-version levels, w.u-width, length-loudness levels w.level-widths))
