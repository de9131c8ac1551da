-- All fields of a file are read as their values were set.
use Rattle.std.proofs.Common.{◌≡◌, ℕ, Bool, true, false, cond, List, [], ◌∷◌, length, map, refl, sym, ◌∙◌, ap, arith}
use Rattle.std.specs.Prelude.{codes}
use Rattle.std.specs.List.{list_all}
use Rattle.std.specs.Str.{bytes_eq}
use Rattle.std.specs.Int.{w16, w64, from_le_bytes}
use Rattle.std.proofs.lemmas.Bool.{and_parts, and_from}
use Rattle.bw_model.specs.Bytes.{le16, le64}
use Rattle.bw_model.specs.Take.{Shape, Text, Digits, Whole, Maybe, Level, shapes, not_given, field_bytes}
use Rattle.bw_model.specs.Layout.{is_version_1}
use Rattle.bw_model.specs.ReadBack.{reported_bext}
use Rattle.bw_model.specs.Wire.{are_bytes}
use Rattle.bw_model.proofs.ByteNumbers.{IsBytes-from_test, wide16, wide64}
use Rattle.bw_plan.specs.CleanedContents.{value_of, values_of, are_texts_kept}
use Rattle.bw_plan.specs.PlanLaws.{fields_of, are_values}
use Rattle.bw_plan.specs.Recordings.{bext_fields}
use Rattle.bw_plan.proofs.CleanParts.{is_value}
use Rattle.bw_end_to_end.specs.Copies.{given_value, given_values}
use Rattle.bw_end_to_end.proofs.Cleaned.{pushed}
use Rattle.bw_end_to_end.proofs.ReadValues.{value-read, length-field, field_of_bytes, text_kept}

-- Numbers.

-- the value of a field that isn't a text has bytes
abbrev pub RawBytes : Shape → List ℕ → Type 0
RawBytes (Text w) v = Unit {0}
RawBytes (Digits form) v = Unit {0}
RawBytes (Whole w) v = are_bytes v ≡ true
RawBytes (Maybe w) v = are_bytes v ≡ true
RawBytes Level v = are_bytes v ≡ true

abbrev pub AllRawBytes : List Shape → List (List ℕ) → Type 0
AllRawBytes [] values = Unit {0}
AllRawBytes (s ∷ ss) [] = Unit {0}
AllRawBytes (s ∷ ss) (v ∷ values) = RawBytes s v × AllRawBytes ss values

time-read : (v : List ℕ) → is_value (Whole 8) v ≡ true → are_bytes v ≡ true →
    value_of (Whole 8) (le64 (from_le_bytes w64 (field_bytes (Whole 8) v))) ≡ given_value (Whole 8) v
time-read v h k =
    ap (value_of (Whole 8)) (wide64.back (field_bytes (Whole 8) v) (length-field (Whole 8) v h)
    (IsBytes-from_test (field_bytes (Whole 8) v) (field_of_bytes (Whole 8) v k)))
    ∙ value-read (Whole 8) v refl h

level-read : (v : List ℕ) → is_value Level v ≡ true → are_bytes v ≡ true →
    value_of Level (le16 (from_le_bytes w16 (field_bytes Level v))) ≡ given_value Level v
level-read v h k =
    ap (value_of Level) (wide16.back (field_bytes Level v) (length-field Level v h)
    (IsBytes-from_test (field_bytes Level v) (field_of_bytes Level v k)))
    ∙ value-read Level v refl h

-- a level whose bytes say that it isn't given
level-absent : (v : List ℕ) → is_value Level v ≡ true → bytes_eq (field_bytes Level v) not_given ≡ true →
    [] ≡ given_value Level v
level-absent v h e =
    sym (ap (λ (x : Bool). cond x [] (field_bytes Level v)) e) ∙ value-read Level v refl h

-- The five levels.

abbrev five_levels : List Shape
five_levels = Level ∷ Level ∷ Level ∷ Level ∷ Level ∷ []

abbrev level_bytes : List ℕ → List ℕ
level_bytes v = field_bytes Level v

-- the levels as a file has them, by its version
abbrev levels_in : Bool → List (List ℕ) → List (List ℕ)
levels_in version_1 fields = map le16 (cond version_1 [] (map (from_le_bytes w16) fields))

record AreLevels (h i j k l : List ℕ) : Type 0 where
  h_is : is_value Level h ≡ true
  i_is : is_value Level i ≡ true
  j_is : is_value Level j ≡ true
  k_is : is_value Level k ≡ true
  l_is : is_value Level l ≡ true
  h_bytes : are_bytes h ≡ true
  i_bytes : are_bytes i ≡ true
  j_bytes : are_bytes j ≡ true
  k_bytes : are_bytes k ≡ true
  l_bytes : are_bytes l ≡ true

levels-read : (h i j k l : List ℕ) → AreLevels h i j k l → (version_1 : Bool) →
    list_all (λ v. bytes_eq v not_given)
    (level_bytes h ∷ level_bytes i ∷ level_bytes j ∷ level_bytes k ∷ level_bytes l ∷ []) ≡ version_1 →
    values_of five_levels
    (levels_in version_1 (level_bytes h ∷ level_bytes i ∷ level_bytes j ∷ level_bytes k ∷ level_bytes l ∷ []))
    ≡ given_values five_levels (h ∷ i ∷ j ∷ k ∷ l ∷ [])
levels-read h i j k l a false e =
    pushed (level-read h a.h_is a.h_bytes) (pushed (level-read i a.i_is a.i_bytes)
    (pushed (level-read j a.j_is a.j_bytes) (pushed (level-read k a.k_is a.k_bytes)
    (pushed (level-read l a.l_is a.l_bytes) refl))))
levels-read h i j k l a true e =
    let is : List ℕ → Bool = λ v. bytes_eq v not_given in
    let one = and_parts (is (level_bytes h))
    (list_all is (level_bytes i ∷ level_bytes j ∷ level_bytes k ∷ level_bytes l ∷ [])) e in
    let two = and_parts (is (level_bytes i)) (list_all is (level_bytes j ∷ level_bytes k ∷ level_bytes l ∷ [])) one.1 in
    let three = and_parts (is (level_bytes j)) (list_all is (level_bytes k ∷ level_bytes l ∷ [])) two.1 in
    let four = and_parts (is (level_bytes k)) (list_all is (level_bytes l ∷ [])) three.1 in
    let five = and_parts (is (level_bytes l)) true four.1 in
    pushed (level-absent h a.h_is one.0) (pushed (level-absent i a.i_is two.0) (pushed (level-absent j a.j_is three.0)
    (pushed (level-absent k a.k_is four.0) (pushed (level-absent l a.l_is five.0) refl))))

-- All fields.

abbrev date : Shape
date = Digits (codes "dddd-dd-dd")

abbrev clock : Shape
clock = Digits (codes "dd:dd:dd")

-- each value is allowed
abbrev pub AllValues : List Shape → List (List ℕ) → Type 0
AllValues [] values = Unit {0}
AllValues (s ∷ ss) [] = Unit {0}
AllValues (s ∷ ss) (v ∷ values) = (is_value s v ≡ true) × AllValues ss values

pub values_each : (ss : List Shape) (values : List (List ℕ)) → are_values ss values ≡ true → AllValues ss values
values_each [] values h = tt
values_each (s ∷ ss) [] h = tt
values_each (s ∷ ss) (v ∷ values) h =
    let both = and_parts (is_value s v) (are_values ss values) h in (both.0, values_each ss values both.1)

twelve : (a b c d e f g h i j k l : List ℕ) →
    are_values shapes (a ∷ b ∷ c ∷ d ∷ e ∷ f ∷ g ∷ h ∷ i ∷ j ∷ k ∷ l ∷ []) ≡ true →
    AllRawBytes shapes (a ∷ b ∷ c ∷ d ∷ e ∷ f ∷ g ∷ h ∷ i ∷ j ∷ k ∷ l ∷ []) →
    values_of shapes (bext_fields
    (reported_bext (fields_of shapes (a ∷ b ∷ c ∷ d ∷ e ∷ f ∷ g ∷ h ∷ i ∷ j ∷ k ∷ l ∷ []))))
    ≡ given_values shapes (a ∷ b ∷ c ∷ d ∷ e ∷ f ∷ g ∷ h ∷ i ∷ j ∷ k ∷ l ∷ [])
twelve a b c d e f g h i j k l v n =
    let p = values_each shapes (a ∷ b ∷ c ∷ d ∷ e ∷ f ∷ g ∷ h ∷ i ∷ j ∷ k ∷ l ∷ []) v in
    pushed (value-read (Text 256) a refl p.0)
    (pushed (value-read (Text 32) b refl p.1.0)
    (pushed (value-read (Text 32) c refl p.1.1.0)
    (pushed (value-read date d refl p.1.1.1.0)
    (pushed (value-read clock e refl p.1.1.1.1.0)
    (pushed (time-read f p.1.1.1.1.1.0 n.1.1.1.1.1.0)
    (pushed (value-read (Maybe 64) g refl p.1.1.1.1.1.1.0)
    (levels-read h i j k l (record {
      h_is = p.1.1.1.1.1.1.1.0;
      i_is = p.1.1.1.1.1.1.1.1.0;
      j_is = p.1.1.1.1.1.1.1.1.1.0;
      k_is = p.1.1.1.1.1.1.1.1.1.1.0;
      l_is = p.1.1.1.1.1.1.1.1.1.1.1.0;
      h_bytes = n.1.1.1.1.1.1.1.0;
      i_bytes = n.1.1.1.1.1.1.1.1.0;
      j_bytes = n.1.1.1.1.1.1.1.1.1.0;
      k_bytes = n.1.1.1.1.1.1.1.1.1.1.0;
      l_bytes = n.1.1.1.1.1.1.1.1.1.1.1.0;
    }) (is_version_1 (fields_of shapes (a ∷ b ∷ c ∷ d ∷ e ∷ f ∷ g ∷ h ∷ i ∷ j ∷ k ∷ l ∷ []))) refl)))))))

-- what a file has of the fields is read as the values, without those that mean that a field isn't given
pub values-read : (values : List (List ℕ)) → length values ≡ 12 → are_values shapes values ≡ true →
    AllRawBytes shapes values →
    values_of shapes (bext_fields (reported_bext (fields_of shapes values))) ≡ given_values shapes values
values-read (a ∷ b ∷ c ∷ d ∷ e ∷ f ∷ g ∷ h ∷ i ∷ j ∷ k ∷ l ∷ []) n v m = twelve a b c d e f g h i j k l v m
values-read values n v m = absurd (omega (arith, n))

-- the texts of such a file may be stored as they stand
texts_of_twelve : (a b c d e f g h i j k l : List ℕ) →
    are_values shapes (a ∷ b ∷ c ∷ d ∷ e ∷ f ∷ g ∷ h ∷ i ∷ j ∷ k ∷ l ∷ []) ≡ true →
    are_texts_kept 1 (reported_bext (fields_of shapes
    (a ∷ b ∷ c ∷ d ∷ e ∷ f ∷ g ∷ h ∷ i ∷ j ∷ k ∷ l ∷ []))).texts ≡ true
texts_of_twelve a b c d e f g h i j k l v =
    let p = values_each shapes (a ∷ b ∷ c ∷ d ∷ e ∷ f ∷ g ∷ h ∷ i ∷ j ∷ k ∷ l ∷ []) v in
    and_from _ _ (text_kept (Text 256) a refl refl p.0)
    (and_from _ _ (text_kept (Text 32) b refl refl p.1.0)
    (and_from _ _ (text_kept (Text 32) c refl refl p.1.1.0)
    (and_from _ _ (text_kept date d refl refl p.1.1.1.0)
    (and_from _ true (text_kept clock e refl refl p.1.1.1.1.0) refl))))

pub texts_are_kept : (values : List (List ℕ)) → length values ≡ 12 → are_values shapes values ≡ true →
    are_texts_kept 1 (reported_bext (fields_of shapes values)).texts ≡ true
texts_are_kept (a ∷ b ∷ c ∷ d ∷ e ∷ f ∷ g ∷ h ∷ i ∷ j ∷ k ∷ l ∷ []) n v = texts_of_twelve a b c d e f g h i j k l v
texts_are_kept values n v = absurd (omega (arith, n))
