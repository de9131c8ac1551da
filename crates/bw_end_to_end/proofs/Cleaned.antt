-- Cleaning what is clean changes nothing.
use mathlib.Core.Logic.{inl, inr}
use Rattle.std.proofs.Common.{◌≡◌, ◌⊎◌, ℕ, zero, suc, ◌≤◌, Bool, true, false, cond, not, List, [], ◌∷◌, ◌++◌, length}
use Rattle.std.proofs.Common.{map, take, refl, sym, ◌∙◌, ap, subst, arith, append-nil, append_assoc, length-take}
use Rattle.std.specs.Prelude.{◌&&◌, ◌||◌, ◌==◌, fold, nat_le, nat_lt}
use Rattle.std.specs.List.{list_all, list_any}
use Rattle.std.specs.Char.{is_ascii_digit}
use Rattle.std.specs.Str.{bytes_eq}
use Rattle.std.proofs.lemmas.Bool.{and_parts, and_from, or_cases, leb-true, eqb-true, ne_eqb, false≢true}
use Rattle.std.proofs.lemmas.Bool.{not_from_false}
use Rattle.std.proofs.lemmas.List.{take_all, length-map}
use Rattle.std.proofs.lemmas.List.Sums.{take_while-cons}
use Rattle.bw_model.specs.Bytes.{zeros}
use Rattle.bw_model.specs.Limits.{longest_history}
use Rattle.bw_model.specs.Take.{Shape, Text, Digits, Whole, Maybe, Level, shapes, is_printable, is_history_byte}
use Rattle.bw_model.specs.Take.{matches, not_given}
use Rattle.bw_model.specs.ReadBack.{reported_cue}
use Rattle.bw_plan.specs.CleanedContents.{text_cleaned_of, history_byte, history_of, is_separator, is_like_at}
use Rattle.bw_plan.specs.CleanedContents.{is_like, placed, with_separators, are_zero, value_of, values_of, with_cue}
use Rattle.bw_plan.specs.CleanedContents.{markers_of}
use Rattle.bw_plan.specs.CleanedTexts.{cleaned_text}
use Rattle.bw_plan.specs.PlanLaws.{are_markers}
use Rattle.bw_plan.proofs.CleanParts.{history_clean, markers_clean}
use Rattle.bw_plan.proofs.CleanTexts.{cleaned_same, text_printable}
use Rattle.bw_end_to_end.specs.Copies.{CleansOnce}

pub pushed : {X : Type 0} {x y : X} {xs ys : List X} → x ≡ y → xs ≡ ys → x ∷ xs ≡ y ∷ ys
pushed e f = cc

pub all-weaker : (p q : ℕ → Bool) → ((c : ℕ) → p c ≡ true → q c ≡ true) → (xs : List ℕ) → list_all p xs ≡ true →
    list_all q xs ≡ true
all-weaker p q f [] h = refl
all-weaker p q f (x ∷ xs) h =
    let both = and_parts (p x) (list_all p xs) h in
    and_from (q x) (list_all q xs) (f x both.0) (all-weaker p q f xs both.1)

map-same : (p : ℕ → Bool) (g : ℕ → ℕ) → ((c : ℕ) → p c ≡ true → g c ≡ c) → (xs : List ℕ) →
    list_all p xs ≡ true → map g xs ≡ xs
map-same p g f [] h = refl
map-same p g f (x ∷ xs) h =
    let both = and_parts (p x) (list_all p xs) h in pushed (f x both.0) (map-same p g f xs both.1)

-- Texts.

abbrev pub is_some_byte : ℕ → Bool
is_some_byte c = not (c == 0)

some_byte : (c : ℕ) → (c ≡ 0 → ⊥) → is_some_byte c ≡ true
some_byte c h = not_from_false (c == 0) (ne_eqb c 0 h)

printable_some : (c : ℕ) → is_printable c ≡ true → is_some_byte c ≡ true
printable_some c h =
    let low : 32 ≤ c = leb-true 32 c (and_parts (nat_le 32 c) (nat_le c 126) h).0 in
    some_byte c (λ z. omega (arith, low, z))

history_some : (c : ℕ) → is_history_byte c ≡ true → is_some_byte c ≡ true
history_some c h = go (or_cases ((c == 13) || (c == 10)) (is_printable c) h)
  where
    is : (n : ℕ) → 1 ≤ n → (c == n) ≡ true → is_some_byte c ≡ true
    is n some e = let same : c ≡ n = eqb-true c n e in some_byte c (λ z. omega (arith, z, same, some))

    two : ((c == 13) ≡ true) ⊎ ((c == 10) ≡ true) → is_some_byte c ≡ true
    two (inl e) = is 13 (omega arith) e
    two (inr e) = is 10 (omega arith) e

    go : (((c == 13) || (c == 10)) ≡ true) ⊎ (is_printable c ≡ true) → is_some_byte c ≡ true
    go (inr e) = printable_some c e
    go (inl e) = two (or_cases (c == 13) (c == 10) e)

-- zero bytes after a text don't belong to it
pub text-padded : (v : List ℕ) (n : ℕ) → list_all is_some_byte v ≡ true → text_cleaned_of (v ++ zeros n) ≡ v
text-padded [] zero h = refl
text-padded [] (suc n) h = take_while-cons is_some_byte 0 (zeros n)
text-padded (c ∷ cs) n h =
    let both = and_parts (is_some_byte c) (list_all is_some_byte cs) h in
    take_while-cons is_some_byte c (cs ++ zeros n)
    ∙ ap (λ (v : Bool). cond v (c ∷ text_cleaned_of (cs ++ zeros n)) []) both.0
    ∙ ap (λ (xs : List ℕ). c ∷ xs) (text-padded cs n both.1)

text-whole : (v : List ℕ) → list_all is_some_byte v ≡ true → text_cleaned_of v ≡ v
text-whole v h = ap text_cleaned_of (sym (append-nil v)) ∙ text-padded v 0 h

pub printable_text : (v : List ℕ) → list_all is_printable v ≡ true → list_all is_some_byte v ≡ true
printable_text v h = all-weaker is_printable is_some_byte printable_some v h

-- a history that may be stored
pub history_text : (v : List ℕ) → list_all is_history_byte v ≡ true → text_cleaned_of v ≡ v
history_text v h = text-whole v (all-weaker is_history_byte is_some_byte history_some v h)

pub history-same : (v : List ℕ) → list_all is_history_byte v ≡ true → length v ≤ 4096 → history_of v ≡ v
history-same v h short =
    ap (λ (t : List ℕ). map history_byte (take longest_history t)) (history_text v h)
    ∙ ap (map history_byte) (take_all 4096 v short)
    ∙ map-same is_history_byte history_byte (λ c e. ap (λ (x : Bool). cond x c 63) e) v h

pub history_short : (bytes : List ℕ) → length (history_of bytes) ≤ 4096
history_short bytes =
    let m = length-map (take longest_history (text_cleaned_of bytes)) history_byte in
    let t = length-take 4096 (text_cleaned_of bytes) in
    omega (arith, m, t)

-- Dates.

-- a byte of a form is a digit's place, or a separator
abbrev pub is_place : ℕ → Bool
is_place f = (f == 100) || is_separator f

like_at : (f c : ℕ) → is_place f ≡ true → cond (f == 100) (is_ascii_digit c) (f == c) ≡ true → is_like_at f c ≡ true
like_at f c p h = go (f == 100) p h
  where
    go : (v : Bool) → v || is_separator f ≡ true → cond v (is_ascii_digit c) (f == c) ≡ true →
        cond v (is_ascii_digit c) (is_separator c) ≡ true
    go true p h = h
    go false p h = subst (λ (x : ℕ). is_separator x ≡ true) (eqb-true f c h) p

placed-same : (f c : ℕ) → cond (f == 100) (is_ascii_digit c) (f == c) ≡ true → placed f c ≡ c
placed-same f c h = go (f == 100) h
  where
    go : (v : Bool) → cond v (is_ascii_digit c) (f == c) ≡ true → cond v c f ≡ c
    go true h = refl
    go false h = eqb-true f c h

like_some : (f c : ℕ) → is_like_at f c ≡ true → is_some_byte c ≡ true
like_some f zero h = absurd (go (f == 100) h)
  where
    go : (v : Bool) → cond v (is_ascii_digit 0) (is_separator 0) ≡ true → ⊥
    go true h = false≢true h
    go false h = false≢true h
like_some f (suc c) h = some_byte (suc c) (λ z. omega (arith, z))

pub like_text : (form v : List ℕ) → is_like form v ≡ true → list_all is_some_byte v ≡ true
like_text [] [] h = refl
like_text [] (c ∷ cs) h = absurd (false≢true h)
like_text (f ∷ fs) [] h = absurd (false≢true h)
like_text (f ∷ fs) (c ∷ cs) h =
    let both = and_parts (is_like_at f c) (is_like fs cs) h in
    and_from (is_some_byte c) (list_all is_some_byte cs) (like_some f c both.0) (like_text fs cs both.1)

-- a text of the form is like the form, and has its separators
pub record IsOfForm (form v : List ℕ) : Type 0 where
  pub like : is_like form v ≡ true
  pub same : with_separators form v ≡ v

pub of_form : (form v : List ℕ) → list_all is_place form ≡ true → matches form v ≡ true → IsOfForm form v
of_form [] [] p h = record { like = refl; same = refl }
of_form [] (c ∷ cs) p h = absurd (false≢true h)
of_form (f ∷ fs) [] p h = absurd (false≢true h)
of_form (f ∷ fs) (c ∷ cs) p h =
    let place = and_parts (is_place f) (list_all is_place fs) p in
    let both = and_parts (cond (f == 100) (is_ascii_digit c) (f == c)) (matches fs cs) h in
    let rest = of_form fs cs place.1 both.1 in
    record {
      like = and_from (is_like_at f c) (is_like fs cs) (like_at f c place.0 both.0) rest.like;
      same = pushed (placed-same f c both.0) rest.same;
    }

-- digits between the form's separators are of the form
separated_at : (f c : ℕ) → is_place f ≡ true → is_like_at f c ≡ true →
    (is_like_at f (placed f c) ≡ true) × (placed f (placed f c) ≡ placed f c)
separated_at f c p h = go (f == 100) p h
  where
    go : (v : Bool) → v || is_separator f ≡ true → cond v (is_ascii_digit c) (is_separator c) ≡ true →
        (cond v (is_ascii_digit (cond v c f)) (is_separator (cond v c f)) ≡ true) × (cond v (cond v c f) f ≡ cond v c f)
    go true p h = (h, refl)
    go false p h = (p, refl)

separated : (form v : List ℕ) → list_all is_place form ≡ true → is_like form v ≡ true →
    IsOfForm form (with_separators form v)
separated [] [] p h = record { like = refl; same = refl }
separated [] (c ∷ cs) p h = absurd (false≢true h)
separated (f ∷ fs) [] p h = absurd (false≢true h)
separated (f ∷ fs) (c ∷ cs) p h =
    let place = and_parts (is_place f) (list_all is_place fs) p in
    let both = and_parts (is_like_at f c) (is_like fs cs) h in
    let one = separated_at f c place.0 both.0 in
    let rest = separated fs cs place.1 both.1 in
    record {
      like = and_from (is_like_at f (placed f c)) (is_like fs (with_separators fs cs)) one.0 rest.like;
      same = pushed one.1 rest.same;
    }

-- Values.

-- the form of a field isn't empty, and has no other bytes
abbrev pub is_plain : Shape → Bool
is_plain (Digits []) = false
is_plain (Digits (f ∷ fs)) = list_all is_place (f ∷ fs)
is_plain (Text w) = true
is_plain (Whole w) = true
is_plain (Maybe w) = true
is_plain Level = true

value-again : (s : Shape) (bytes : List ℕ) → is_plain s ≡ true → value_of s (value_of s bytes) ≡ value_of s bytes
value-again (Text w) bytes p =
    let v = cleaned_text (text_cleaned_of bytes) in
    let fine = text_printable (text_cleaned_of bytes) in
    ap cleaned_text (text-whole v (printable_text v fine)) ∙ cleaned_same v fine
value-again (Digits []) bytes p = absurd (false≢true p)
value-again (Digits (f ∷ fs)) bytes p = go (is_like form text) refl
  where
    form : List ℕ
    form = f ∷ fs

    text : List ℕ
    text = text_cleaned_of bytes

    dated : List ℕ → List ℕ
    dated t = cond (is_like form t) (with_separators form t) []

    go : (v : Bool) → is_like form text ≡ v →
        dated (text_cleaned_of (cond v (with_separators form text) [])) ≡ cond v (with_separators form text) []
    go false e = refl
    go true e =
        let w = with_separators form text in
        let of = separated form text p e in
        ap dated (text-whole w (like_text form w of.like))
        ∙ ap (λ (v : Bool). cond v (with_separators form w) []) of.like ∙ of.same
value-again (Whole w) bytes p = go (are_zero bytes) refl
  where
    go : (v : Bool) → are_zero bytes ≡ v → value_of (Whole w) (cond v [] bytes) ≡ cond v [] bytes
    go true e = refl
    go false e = ap (λ (v : Bool). cond v [] bytes) e
value-again (Maybe w) bytes p = go (are_zero bytes) refl
  where
    go : (v : Bool) → are_zero bytes ≡ v → value_of (Maybe w) (cond v [] bytes) ≡ cond v [] bytes
    go true e = refl
    go false e = ap (λ (v : Bool). cond v [] bytes) e
value-again Level bytes p = go (bytes_eq bytes not_given) refl
  where
    go : (v : Bool) → bytes_eq bytes not_given ≡ v → value_of Level (cond v [] bytes) ≡ cond v [] bytes
    go true e = refl
    go false e = ap (λ (v : Bool). cond v [] bytes) e

-- of no bytes there is no value
value-none : (s : Shape) → is_plain s ≡ true → value_of s [] ≡ []
value-none (Text w) p = cleaned_same [] refl
value-none (Digits []) p = absurd (false≢true p)
value-none (Digits (f ∷ fs)) p = refl
value-none (Whole w) p = refl
value-none (Maybe w) p = refl
value-none Level p = refl

values-again : (ss : List Shape) (fields : List (List ℕ)) → list_all is_plain ss ≡ true →
    values_of ss (values_of ss fields) ≡ values_of ss fields
values-again [] fields p = refl
values-again (s ∷ ss) [] p =
    let both = and_parts (is_plain s) (list_all is_plain ss) p in
    pushed (value-none s both.0) (values-again ss [] both.1)
values-again (s ∷ ss) (bytes ∷ fields) p =
    let both = and_parts (is_plain s) (list_all is_plain ss) p in
    pushed (value-again s bytes both.0) (values-again ss fields both.1)

-- Markers.

cues_kept : (frames : ℕ) (before ms : List (ℕ × ℕ)) → are_markers frames before ms ≡ true →
    fold (with_cue frames) before (map reported_cue ms) ≡ before ++ ms
cues_kept frames before [] h = sym (append-nil before)
cues_kept frames before (m ∷ ms) h =
    let one = nat_le m.1 frames && not (list_any (λ k. k.0 == m.0) before) && nat_lt (length before) 1024 in
    let both = and_parts one (are_markers frames (before ++ m ∷ []) ms) h in
    ap (λ (v : Bool). fold (with_cue frames) (cond v (before ++ m ∷ []) before) (map reported_cue ms)) both.0
    ∙ cues_kept frames (before ++ m ∷ []) ms both.1 ∙ append_assoc before (m ∷ []) ms

-- markers that may be stored are the markers of their cue points
pub markers-same : (frames : ℕ) (ms : List (ℕ × ℕ)) → are_markers frames [] ms ≡ true →
    markers_of frames (map reported_cue ms) ≡ ms
markers-same frames ms h = cues_kept frames [] ms h

-- All of it.

pub cleans_once : CleansOnce
cleans_once = record {
  history = λ bytes. history-same (history_of bytes) (history_clean bytes) (history_short bytes);
  values = λ fields. values-again shapes fields refl;
  markers = λ frames cues. markers-same frames (markers_of frames cues) (markers_clean frames cues);
}
