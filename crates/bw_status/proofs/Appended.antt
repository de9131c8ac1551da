-- Texts that are appended one after another.
use Rattle.std.proofs.Common.{◌≡◌, ◌∙◌, ◌++◌, ℕ, List, ap}
use Rattle.std.proofs.lemmas.List.{append_assoc}

pub two : (o a1 a2 x1 x2 : List ℕ) →
    x1 ≡ o ++ a1 → x2 ≡ x1 ++ a2 →
    x2 ≡ o ++ (a1 ++ a2)
two o a1 a2 x1 x2 h1 h2 = h2 ∙ (ap (λ (x : List ℕ). x ++ a2) h1 ∙ append_assoc o a1 a2)

pub three : (o a1 a2 a3 x1 x2 x3 : List ℕ) →
    x1 ≡ o ++ a1 → x2 ≡ x1 ++ a2 → x3 ≡ x2 ++ a3 →
    x3 ≡ o ++ (a1 ++ a2 ++ a3)
three o a1 a2 a3 x1 x2 x3 h1 h2 h3 =
    two o (a1 ++ a2) a3 x2 x3
    (two o a1 a2 x1 x2 h1 h2) h3

pub four : (o a1 a2 a3 a4 x1 x2 x3 x4 : List ℕ) →
    x1 ≡ o ++ a1 → x2 ≡ x1 ++ a2 → x3 ≡ x2 ++ a3 → x4 ≡ x3 ++ a4 →
    x4 ≡ o ++ (a1 ++ a2 ++ a3 ++ a4)
four o a1 a2 a3 a4 x1 x2 x3 x4 h1 h2 h3 h4 =
    two o (a1 ++ a2 ++ a3) a4 x3 x4
    (three o a1 a2 a3 x1 x2 x3 h1 h2 h3) h4

pub five : (o a1 a2 a3 a4 a5 x1 x2 x3 x4 x5 : List ℕ) →
    x1 ≡ o ++ a1 → x2 ≡ x1 ++ a2 → x3 ≡ x2 ++ a3 → x4 ≡ x3 ++ a4 → x5 ≡ x4 ++ a5 →
    x5 ≡ o ++ (a1 ++ a2 ++ a3 ++ a4 ++ a5)
five o a1 a2 a3 a4 a5 x1 x2 x3 x4 x5 h1 h2 h3 h4 h5 =
    two o (a1 ++ a2 ++ a3 ++ a4) a5 x4 x5
    (four o a1 a2 a3 a4 x1 x2 x3 x4 h1 h2 h3 h4) h5

pub six : (o a1 a2 a3 a4 a5 a6 x1 x2 x3 x4 x5 x6 : List ℕ) →
    x1 ≡ o ++ a1 → x2 ≡ x1 ++ a2 → x3 ≡ x2 ++ a3 → x4 ≡ x3 ++ a4 → x5 ≡ x4 ++ a5 → x6 ≡ x5 ++ a6 →
    x6 ≡ o ++ (a1 ++ a2 ++ a3 ++ a4 ++ a5 ++ a6)
six o a1 a2 a3 a4 a5 a6 x1 x2 x3 x4 x5 x6 h1 h2 h3 h4 h5 h6 =
    two o (a1 ++ a2 ++ a3 ++ a4 ++ a5) a6 x5 x6
    (five o a1 a2 a3 a4 a5 x1 x2 x3 x4 x5 h1 h2 h3 h4 h5) h6

pub seven : (o a1 a2 a3 a4 a5 a6 a7 x1 x2 x3 x4 x5 x6 x7 : List ℕ) →
    x1 ≡ o ++ a1 → x2 ≡ x1 ++ a2 → x3 ≡ x2 ++ a3 → x4 ≡ x3 ++ a4 → x5 ≡ x4 ++ a5 →
    x6 ≡ x5 ++ a6 → x7 ≡ x6 ++ a7 →
    x7 ≡ o ++ (a1 ++ a2 ++ a3 ++ a4 ++ a5 ++ a6 ++ a7)
seven o a1 a2 a3 a4 a5 a6 a7 x1 x2 x3 x4 x5 x6 x7 h1 h2 h3 h4 h5 h6 h7 =
    two o (a1 ++ a2 ++ a3 ++ a4 ++ a5 ++ a6) a7 x6 x7
    (six o a1 a2 a3 a4 a5 a6 x1 x2 x3 x4 x5 x6 h1 h2 h3 h4 h5 h6) h7

pub eight : (o a1 a2 a3 a4 a5 a6 a7 a8 x1 x2 x3 x4 x5 x6 x7 x8 : List ℕ) →
    x1 ≡ o ++ a1 → x2 ≡ x1 ++ a2 → x3 ≡ x2 ++ a3 → x4 ≡ x3 ++ a4 → x5 ≡ x4 ++ a5 →
    x6 ≡ x5 ++ a6 → x7 ≡ x6 ++ a7 → x8 ≡ x7 ++ a8 →
    x8 ≡ o ++ (a1 ++ a2 ++ a3 ++ a4 ++ a5 ++ a6 ++ a7 ++ a8)
eight o a1 a2 a3 a4 a5 a6 a7 a8 x1 x2 x3 x4 x5 x6 x7 x8 h1 h2 h3 h4 h5 h6 h7 h8 =
    two o (a1 ++ a2 ++ a3 ++ a4 ++ a5 ++ a6 ++ a7) a8 x7 x8
    (seven o a1 a2 a3 a4 a5 a6 a7 x1 x2 x3 x4 x5 x6 x7 h1 h2 h3 h4 h5 h6 h7) h8
