-- Fields are read as their values were set.
use mathlib.Core.Logic.{inl, inr}
use Rattle.std.proofs.Common.{◌≡◌, ◌⊎◌, ℕ, zero, suc, ◌-◌, Bool, true, false, cond, not, List, [], ◌∷◌, ◌++◌, length}
use Rattle.std.proofs.Common.{map, refl, sym, ◌∙◌, ap, arith, append-nil, Option, Some, None}
use Rattle.std.proofs.Math.ListN.{length-replicate}
use Rattle.std.specs.Prelude.{◌||◌, ◌==◌, is_none}
use Rattle.std.proofs.lemmas.Bool.{and_parts, and_from, or_cases, eqb-true, le-leb, false≢true}
use Rattle.std.proofs.lemmas.List.Folds.{list_all-append}
use Rattle.bw_model.specs.Bytes.{zeros}
use Rattle.bw_model.specs.Take.{Shape, Text, Digits, Whole, Maybe, Level, not_given, width, field_bytes, shape_fault}
use Rattle.bw_model.specs.Take.{is_length_allowed, are_bytes_allowed, FieldFault, BadLength, BadText}
use Rattle.bw_model.specs.Wire.{is_below, are_bytes}
use Rattle.bw_model.proofs.BookLemmas.{name_refl}
use Rattle.bw_model.proofs.FieldLaws.{length-field_bytes}
use Rattle.bw_plan.specs.CleanedContents.{text_cleaned_of, is_like, with_separators, are_zero, value_of}
use Rattle.bw_plan.specs.PlanLaws.{fields_of, are_values}
use Rattle.bw_plan.proofs.CleanParts.{is_value}
use Rattle.bw_end_to_end.specs.Copies.{is_not_given, given_value}
use Rattle.bw_plan.specs.CleanedTexts.{cleaned_text}
use Rattle.bw_plan.proofs.CleanTexts.{cleaned_same}
use Rattle.bw_end_to_end.proofs.Cleaned.{pushed, text-padded, printable_text, like_text, of_form, is_plain}

-- What is allowed.

-- a value that a field may have, and its length
pub record IsAllowed (s : Shape) (v : List ℕ) : Type 0 where
  pub long : is_length_allowed s (length v) ≡ true
  pub bytes : are_bytes_allowed s v ≡ true

abbrev text_fault : Bool → Option FieldFault
text_fault x = cond (not x) (Some BadText) None

pub allowed : (s : Shape) (c : ℕ) (cs : List ℕ) → is_value s (c ∷ cs) ≡ true → IsAllowed s (c ∷ cs)
allowed s c cs h = go (or_cases (length (c ∷ cs) == 0) (is_none (shape_fault (Some s) (c ∷ cs))) h)
  where
    parts : (x y : Bool) → is_length_allowed s (length (c ∷ cs)) ≡ x → are_bytes_allowed s (c ∷ cs) ≡ y →
        is_none (cond (not x) (Some BadLength) (text_fault y)) ≡ true → IsAllowed s (c ∷ cs)
    parts true true e f h = record { long = e; bytes = f }
    parts true false e f h = absurd (false≢true h)
    parts false y e f h = absurd (false≢true h)

    go : ((length (c ∷ cs) == 0) ≡ true) ⊎ (is_none (shape_fault (Some s) (c ∷ cs)) ≡ true) → IsAllowed s (c ∷ cs)
    go (inl e) = let none : length (c ∷ cs) ≡ 0 = eqb-true (length (c ∷ cs)) 0 e in absurd (omega (arith, none))
    go (inr e) = parts (is_length_allowed s (length (c ∷ cs))) (are_bytes_allowed s (c ∷ cs)) refl refl e

-- Bytes of fields.

zeros-zero : (n : ℕ) → are_zero (zeros n) ≡ true
zeros-zero zero = refl
zeros-zero (suc n) = zeros-zero n

zeros_bytes : (n : ℕ) → are_bytes (zeros n) ≡ true
zeros_bytes zero = refl
zeros_bytes (suc n) = zeros_bytes n

-- a value of the field's width has nothing after it
full : (v : List ℕ) (w : ℕ) → length v ≡ w → v ++ zeros (w - length v) ≡ v
full v w h =
    let none : w - length v ≡ 0 = omega (arith, h) in ap (λ (n : ℕ). v ++ zeros n) none ∙ append-nil v

padded_bytes : (v : List ℕ) (n : ℕ) → are_bytes v ≡ true → are_bytes (v ++ zeros n) ≡ true
padded_bytes v n h = list_all-append (is_below 256) v (zeros n)
    ∙ and_from (are_bytes v) (are_bytes (zeros n)) h (zeros_bytes n)

pub field_of_bytes : (s : Shape) (v : List ℕ) → are_bytes v ≡ true → are_bytes (field_bytes s v) ≡ true
field_of_bytes (Text w) v h = padded_bytes v (w - length v) h
field_of_bytes (Digits form) v h = padded_bytes v (length form - length v) h
field_of_bytes (Whole w) v h = padded_bytes v (w - length v) h
field_of_bytes (Maybe w) v h = padded_bytes v (w - length v) h
field_of_bytes Level [] h = refl
field_of_bytes Level (c ∷ cs) h = padded_bytes (c ∷ cs) (2 - length (c ∷ cs)) h

none-long : (w : ℕ) → length (zeros (w - 0)) ≡ w
none-long w = length-replicate (w - 0) 0 ∙ omega arith

pub length-field : (s : Shape) (v : List ℕ) → is_value s v ≡ true → length (field_bytes s v) ≡ width s
length-field (Text w) [] h = none-long w
length-field (Digits form) [] h = none-long (length form)
length-field (Whole w) [] h = none-long w
length-field (Maybe w) [] h = none-long w
length-field Level [] h = refl
length-field s (c ∷ cs) h = length-field_bytes s (c ∷ cs) (allowed s c cs h).long

pub fields-widths : (ss : List Shape) (values : List (List ℕ)) → are_values ss values ≡ true →
    map length (fields_of ss values) ≡ map width ss
fields-widths [] values h = refl
fields-widths (s ∷ ss) [] h = pushed (length-field s [] refl) (fields-widths ss [] refl)
fields-widths (s ∷ ss) (v ∷ values) h =
    let both = and_parts (is_value s v) (are_values ss values) h in
    pushed (length-field s v both.0) (fields-widths ss values both.1)

-- Texts.

abbrev pub is_text : Shape → Bool
is_text (Text w) = true
is_text (Digits form) = true
is_text (Whole w) = false
is_text (Maybe w) = false
is_text Level = false

-- a text is read as it was set
pub text-read : (s : Shape) (v : List ℕ) → is_text s ≡ true → is_plain s ≡ true → is_value s v ≡ true →
    text_cleaned_of (field_bytes s v) ≡ v
text-read (Text w) [] t p h = text-padded [] (w - 0) refl
text-read (Text w) (c ∷ cs) t p h =
    text-padded (c ∷ cs) (w - length (c ∷ cs)) (printable_text (c ∷ cs) (allowed (Text w) c cs h).bytes)
text-read (Digits form) [] t p h = text-padded [] (length form - 0) refl
text-read (Digits []) (c ∷ cs) t p h = absurd (false≢true p)
text-read (Digits (f ∷ fs)) (c ∷ cs) t p h =
    let of = of_form (f ∷ fs) (c ∷ cs) p (allowed (Digits (f ∷ fs)) c cs h).bytes in
    text-padded (c ∷ cs) (length (f ∷ fs) - length (c ∷ cs)) (like_text (f ∷ fs) (c ∷ cs) of.like)
text-read (Whole w) v t p h = absurd (false≢true t)
text-read (Maybe w) v t p h = absurd (false≢true t)
text-read Level v t p h = absurd (false≢true t)

-- .. and may be stored as it stands
no_fault : (s : Shape) (v : List ℕ) → is_text s ≡ true → is_value s v ≡ true → is_none (shape_fault (Some s) v) ≡ true
no_fault (Text w) [] t h =
    ap (λ (x : Bool). is_none (cond {A = Option FieldFault} (not x) (Some BadLength) None)) (le-leb 0 w (omega arith))
no_fault (Digits form) [] t h = refl
no_fault (Whole w) [] t h = absurd (false≢true t)
no_fault (Maybe w) [] t h = absurd (false≢true t)
no_fault Level [] t h = absurd (false≢true t)
no_fault s (c ∷ cs) t h =
    let a = allowed s c cs h in
    ap (λ (x : Bool). is_none (cond (not x) (Some BadLength) (text_fault (are_bytes_allowed s (c ∷ cs))))) a.long
    ∙ ap (λ (x : Bool). is_none (text_fault x)) a.bytes

-- the text in a field's bytes may be stored
pub text_kept : (s : Shape) (v : List ℕ) → is_text s ≡ true → is_plain s ≡ true → is_value s v ≡ true →
    is_none (shape_fault (Some s) (text_cleaned_of (field_bytes s v))) ≡ true
text_kept s v t p h =
    ap (λ (x : List ℕ). is_none (shape_fault (Some s) x)) (text-read s v t p h) ∙ no_fault s v t h

-- Values.

pub nothing_given : (x : Bool) → cond {A = List ℕ} x [] [] ≡ []
nothing_given true = refl
nothing_given false = refl

-- what isn't given reads as nothing
none-read : (s : Shape) → is_plain s ≡ true → value_of s (field_bytes s []) ≡ []
none-read (Text w) p = ap cleaned_text (text-read (Text w) [] refl refl refl) ∙ cleaned_same [] refl
none-read (Digits []) p = absurd (false≢true p)
none-read (Digits (f ∷ fs)) p =
    ap (λ (t : List ℕ). cond (is_like (f ∷ fs) t) (with_separators (f ∷ fs) t) [])
    (text-read (Digits (f ∷ fs)) [] refl p refl)
none-read (Whole w) p = ap (λ (x : Bool). cond x [] (zeros (w - 0))) (zeros-zero (w - 0))
none-read (Maybe w) p = ap (λ (x : Bool). cond x [] (zeros (w - 0))) (zeros-zero (w - 0))
none-read Level p = ap (λ (x : Bool). cond x [] not_given) (name_refl not_given)

whole_long : (c : ℕ) (cs : List ℕ) (w : ℕ) → (length (c ∷ cs) == 0) || (length (c ∷ cs) == w) ≡ true →
    length (c ∷ cs) ≡ w
whole_long c cs w h = go (or_cases (length (c ∷ cs) == 0) (length (c ∷ cs) == w) h)
  where
    go : ((length (c ∷ cs) == 0) ≡ true) ⊎ ((length (c ∷ cs) == w) ≡ true) → length (c ∷ cs) ≡ w
    go (inl e) = let none : length (c ∷ cs) ≡ 0 = eqb-true (length (c ∷ cs)) 0 e in absurd (omega (arith, none))
    go (inr e) = eqb-true (length (c ∷ cs)) w e

some-read : (s : Shape) (c : ℕ) (cs : List ℕ) → is_plain s ≡ true → is_value s (c ∷ cs) ≡ true →
    value_of s (field_bytes s (c ∷ cs)) ≡ given_value s (c ∷ cs)
some-read (Text w) c cs p h =
    ap cleaned_text (text-read (Text w) (c ∷ cs) refl p h)
    ∙ cleaned_same (c ∷ cs) (allowed (Text w) c cs h).bytes
some-read (Digits []) c cs p h = absurd (false≢true p)
some-read (Digits (f ∷ fs)) c cs p h =
    let of = of_form (f ∷ fs) (c ∷ cs) p (allowed (Digits (f ∷ fs)) c cs h).bytes in
    ap (λ (t : List ℕ). cond (is_like (f ∷ fs) t) (with_separators (f ∷ fs) t) [])
    (text-read (Digits (f ∷ fs)) (c ∷ cs) refl p h)
    ∙ ap (λ (x : Bool). cond x (with_separators (f ∷ fs) (c ∷ cs)) []) of.like ∙ of.same
some-read (Whole w) c cs p h =
    ap (value_of (Whole w)) (full (c ∷ cs) w (eqb-true (length (c ∷ cs)) w (allowed (Whole w) c cs h).long))
some-read (Maybe w) c cs p h =
    ap (value_of (Maybe w)) (full (c ∷ cs) w (whole_long c cs w (allowed (Maybe w) c cs h).long))
some-read Level c cs p h =
    ap (value_of Level) (full (c ∷ cs) 2 (whole_long c cs 2 (allowed Level c cs h).long))

-- a value is read as it was set, or as nothing where it means that the field isn't given
pub value-read : (s : Shape) (v : List ℕ) → is_plain s ≡ true → is_value s v ≡ true →
    value_of s (field_bytes s v) ≡ given_value s v
value-read s [] p h = none-read s p ∙ sym (nothing_given (is_not_given s []))
value-read s (c ∷ cs) p h = some-read s c cs p h
