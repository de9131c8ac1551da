-- The ranges of the fields of `bext`, tag by tag.
use Rattle.std.proofs.Common.{◌≡◌, ℕ, zero, suc, ◌+◌, ◌<◌, ◌≤◌, List, [], ◌∷◌, length, Option, Some, None, is_some}
use Rattle.std.proofs.Common.{true, refl, lit<, arith, subst}
use Rattle.std.specs.Prelude.{slice_get}
use Rattle.std.proofs.lemmas.Option.{slice_get_within, slice_get-get_or}
use Rattle.bw_model.specs.Take.{shape_of, shapes}
use Rattle.bw_layout.specs.Places.{StandsAt, field_ranges, range_of}
use Rattle.bw_layout.proofs.FieldPlaces.{stands_1, stands_2, stands_3, stands_4, stands_5, stands_6, stands_7, stands_8}
use Rattle.bw_layout.proofs.FieldPlaces.{stands_9, stands_10, stands_11, stands_12}

-- what holds of each range under its tag, the first of which is this
abbrev EachFrom : (ℕ → ℕ × ℕ → Type 0) → ℕ → List (ℕ × ℕ) → Type 0
EachFrom P tag [] = Unit {0}
EachFrom P tag (at ∷ rest) = P tag at × EachFrom P (suc tag) rest

each_from : (P : ℕ → ℕ × ℕ → Type 0) (tag : ℕ) (ranges : List (ℕ × ℕ)) (n : ℕ) (at : ℕ × ℕ) →
    EachFrom P tag ranges → slice_get ranges n ≡ Some at → P (tag + n) at
each_from P tag [] n at all e = cc
each_from P tag (first ∷ rest) zero at all e =
    let here : tag ≡ tag + zero = omega arith in
    let same : first ≡ at = cc in
    subst (λ (t : ℕ). P t at) here (subst (P tag) same all.0)
each_from P tag (first ∷ rest) (suc n) at all e =
    let later : suc tag + n ≡ tag + suc n = omega arith in
    subst (λ (t : ℕ). P t at) later (each_from P (suc tag) rest n at all.1 e)

each_range : (P : ℕ → ℕ × ℕ → Type 0) (tag : ℕ) (at : ℕ × ℕ) → EachFrom P 1 field_ranges →
    range_of tag ≡ Some at → P tag at
each_range P zero at all e = cc
each_range P (suc n) at all e =
    let next : 1 + n ≡ suc n = omega arith in
    subst (λ (t : ℕ). P t at) next (each_from P 1 field_ranges n at all e)

-- the field is in its range
pub range_stands : (tag : ℕ) (at : ℕ × ℕ) → range_of tag ≡ Some at → StandsAt tag at.0 at.1
range_stands tag at e =
    each_range (λ t r. StandsAt t r.0 r.1) tag at (
      stands_1,
      (
        stands_2,
        (
          stands_3,
          (
            stands_4,
            (
              stands_5,
              (
                stands_6,
                (
                  stands_7,
                  (
                    stands_8,
                    (
                      stands_9,
                      (
                        stands_10,
                        (stands_11, (stands_12, tt)),
                      ),
                    ),
                  ),
                ),
              ),
            ),
          ),
        ),
      ),
    )
    e

abbrev IsShared : ℕ → ℕ × ℕ → Type 0
IsShared tag at = 8 ≤ tag → at ≡ (426, 76)

-- a loudness shares its range with the others
pub range_shared : (tag : ℕ) (at : ℕ × ℕ) → range_of tag ≡ Some at → 8 ≤ tag → at ≡ (426, 76)
range_shared tag at e =
    each_range IsShared tag at (
      no 1 _ (lit< tt),
      (
        no 2 _ (lit< tt),
        (
          no 3 _ (lit< tt),
          (
            no 4 _ (lit< tt),
            (
              no 5 _ (lit< tt),
              (
                no 6 _ (lit< tt),
                (no 7 _ (lit< tt), (is 8, (is 9, (is 10, (is 11, (is 12, tt)))))),
              ),
            ),
          ),
        ),
      ),
    )
    e
  where
    no : (t : ℕ) (r : ℕ × ℕ) → t < 8 → IsShared t r
    no t r low high = absurd (omega arith)

    is : (t : ℕ) → IsShared t (426, 76)
    is t high = refl

-- there are twelve
pub range_tags : (tag : ℕ) (at : ℕ × ℕ) → range_of tag ≡ Some at → tag ≤ 12
range_tags zero at e = omega arith
range_tags (suc n) at e = let low : n < 12 = slice_get_within field_ranges n at e in omega (arith, low)

-- each field has one
pub range_known : (tag : ℕ) → is_some (shape_of tag) ≡ true → (at : ℕ × ℕ) × (range_of tag ≡ Some at)
range_known zero known = cc
range_known (suc n) known =
    let low : n < 12 = some_within shapes n (slice_get shapes n) refl known in
    (_, slice_get-get_or field_ranges n (0, 0) low)
  where
    some_within : {X : Type 0} (xs : List X) (k : ℕ) (found : Option X) → slice_get xs k ≡ found →
        is_some found ≡ true → k < length xs
    some_within xs k (Some x) is known = slice_get_within xs k x is
    some_within xs k None is known = cc
