-- Numbers in bytes: what is read is what was written, and what was written is read back.
use Rattle.std.proofs.Common.{◌≡◌, ℕ, zero, suc, ◌+◌, ◌-◌, ◌^◌, ◌<◌, ◌≤◌, true, List, [], ◌∷◌, ◌++◌, length, get_or}
use Rattle.std.proofs.Common.{take, drop, refl, sym, ap, ◌∙◌, arith}
use Rattle.std.specs.Prelude.{slice_range}
use Rattle.std.specs.Int.{Width, w16, w32, w64, byte_len, to_le_bytes, from_le_bytes}
use Rattle.std.proofs.lemmas.Bool.{and_parts, ltb-true}
use Rattle.std.proofs.lemmas.List.{take_at, take-append-drop, drop-drop, length-take-le, length-drop}
use Rattle.std.proofs.lemmas.List.Folds.{list_all-append}
use Rattle.std.proofs.lemmas.Nat.{le_bytes_2, le_bytes_4, le_bytes_8, from_le_bytes-to_le_bytes_2}
use Rattle.std.proofs.lemmas.Nat.{from_le_bytes-to_le_bytes_4, from_le_bytes-to_le_bytes_8}
use Rattle.bw_model.specs.Wire.{is_below, are_bytes}

abbrev pub IsBytes : List ℕ → Type 0
IsBytes bytes = (i : ℕ) → get_or bytes i 0 < 256

-- a list whose elements pass as bytes has bytes at every place
pub IsBytes-from_test : (bytes : List ℕ) → are_bytes bytes ≡ true → IsBytes bytes
IsBytes-from_test [] h i = omega arith
IsBytes-from_test (b ∷ bs) h zero = ltb-true b 256 (and_parts (is_below 256 b) (are_bytes bs) h).0
IsBytes-from_test (b ∷ bs) h (suc i) = IsBytes-from_test bs (and_parts (is_below 256 b) (are_bytes bs) h).1 i

-- a prefix of bytes and the rest are bytes
pub are_bytes-parts : (n : ℕ) (bytes : List ℕ) → are_bytes bytes ≡ true →
    (are_bytes (take n bytes) ≡ true) × (are_bytes (drop n bytes) ≡ true)
are_bytes-parts n bytes h =
    and_parts (are_bytes (take n bytes)) (are_bytes (drop n bytes))
    (sym (list_all-append (is_below 256) (take n bytes) (drop n bytes)) ∙ ap are_bytes (take-append-drop n bytes) ∙ h)

pub are_bytes-tail : (xs ys : List ℕ) → are_bytes (xs ++ ys) ≡ true → are_bytes ys ≡ true
are_bytes-tail xs ys h = (and_parts (are_bytes xs) (are_bytes ys) (sym (list_all-append (is_below 256) xs ys) ∙ h)).1

-- the numbers below the limit are those of this width
pub record IsWide (w : Width) (limit : ℕ) : Type 0 where
  pub back : (bytes : List ℕ) → length bytes ≡ byte_len w → IsBytes bytes →
      to_le_bytes w (from_le_bytes w bytes) ≡ bytes
  pub again : (n : ℕ) → n < limit → from_le_bytes w (to_le_bytes w n) ≡ n
  pub below : (bytes : List ℕ) → IsBytes bytes → from_le_bytes w bytes < limit
  pub len : (n : ℕ) → length (to_le_bytes w n) ≡ byte_len w

pub wide16 : IsWide w16 (2 ^ 16)
wide16 = record {
  back = λ bytes len fits. le_bytes_2 bytes _ len fits refl;
  again = from_le_bytes-to_le_bytes_2;
  below = λ bytes fits. omega (arith, fits 0, fits 1);
  len = λ n. refl;
}

pub wide32 : IsWide w32 (2 ^ 32)
wide32 = record {
  back = λ bytes len fits. le_bytes_4 bytes _ len fits refl;
  again = from_le_bytes-to_le_bytes_4;
  below = λ bytes fits. omega (arith, fits 0, fits 1, fits 2, fits 3);
  len = λ n. refl;
}

pub wide64 : IsWide w64 (2 ^ 64)
wide64 = record {
  back = λ bytes len fits. le_bytes_8 bytes _ len fits refl;
  again = from_le_bytes-to_le_bytes_8;
  below = λ bytes fits. omega (arith, fits 0, fits 1, fits 2, fits 3, fits 4, fits 5, fits 6, fits 7);
  len = λ n. refl;
}

-- the number of this width at a place
abbrev pub number_at : Width → List ℕ → ℕ → ℕ
number_at w bytes p = from_le_bytes w (slice_range bytes p (p + byte_len w))

-- what is at a place is a number and what follows it
pub written-number_at : (w : Width) (limit : ℕ) (wide : IsWide w limit) (bytes : List ℕ) (p : ℕ) →
    are_bytes bytes ≡ true → p + byte_len w ≤ length bytes
    → (to_le_bytes w (number_at w bytes p) ++ drop (p + byte_len w) bytes ≡ drop p bytes)
    × (number_at w bytes p < limit)
written-number_at w limit wide bytes p fits long =
    let piece : take (p + byte_len w - p) (drop p bytes) ≡ take (byte_len w) (drop p bytes) =
    ap (λ (n : ℕ). take n (drop p bytes)) (omega arith) in
    let rest_fits = (are_bytes-parts p bytes fits).1 in
    let piece_fits = IsBytes-from_test (take (byte_len w) (drop p bytes))
    (are_bytes-parts (byte_len w) (drop p bytes) rest_fits).0 in
    let len : length (take (byte_len w) (drop p bytes)) ≡ byte_len w =
    length-take-le (byte_len w) (drop p bytes) (omega (arith, length-drop p bytes)) in
    rw piece (
      ap (λ (x : List ℕ). x ++ drop (p + byte_len w) bytes)
          (wide.back (take (byte_len w) (drop p bytes)) len piece_fits)
          ∙ ap (λ (x : List ℕ). take (byte_len w) (drop p bytes) ++ x) (sym (drop-drop (byte_len w) p bytes))
          ∙ take-append-drop (byte_len w) (drop p bytes),
      wide.below (take (byte_len w) (drop p bytes)) piece_fits,
    )

-- a number before other bytes is read back
pub number_at-written : (w : Width) (limit : ℕ) (wide : IsWide w limit) (n : ℕ) (rest : List ℕ) → n < limit →
    number_at w (to_le_bytes w n ++ rest) 0 ≡ n
number_at-written w limit wide n rest lt =
    let piece : 0 + byte_len w - 0 ≡ byte_len w = omega arith in
    rw piece (rw (take_at (to_le_bytes w n) rest (byte_len w) (wide.len n)) (wide.again n lt))
