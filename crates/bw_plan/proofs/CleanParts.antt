-- What is cleaned may be stored.
use Rattle.std.proofs.Common.{◌≡◌, ℕ, zero, suc, ◌≤◌, Bool, true, false, cond, not, ◌&&◌}
use Rattle.std.proofs.Common.{List, [], ◌∷◌, ◌++◌, length, map, take, Option, Some, None, refl, sym, ◌∙◌, ap, subst}
use Rattle.std.proofs.Common.{arith, length-take, append_assoc, append-nil}
use Rattle.std.specs.Prelude.{◌||◌, ◌==◌, fold, is_none, slice_get, slice_set, nat_le, nat_lt}
use Rattle.std.specs.List.{list_all, list_any, prefix_len}
use Rattle.std.specs.Char.{is_ascii_digit}
use Rattle.std.specs.Str.{bytes_eq}
use Rattle.std.proofs.lemmas.Bool.{and_parts, and_from, le-leb, eq-eqb, false≢true}
use Rattle.std.proofs.lemmas.List.{length-map}
use Rattle.bw_model.specs.Limits.{longest_history}
use Rattle.bw_model.specs.Take.{Shape, Text, Digits, Whole, Maybe, Level, not_given, shape_fault}
use Rattle.bw_model.specs.Take.{is_history_byte, is_length_allowed, are_bytes_allowed, matches, FieldFault, BadLength, BadText}
use Rattle.bw_model.specs.Report.{RawCue}
use Rattle.bw_plan.specs.CleanedContents.{text_cleaned_of, history_of, is_like, is_like_at, with_separators}
use Rattle.bw_plan.specs.CleanedContents.{placed, are_zero, value_of, values_of, is_marker_kept, with_cue, markers_of}
use Rattle.bw_plan.specs.CleanedTexts.{cleaned_text}
use Rattle.bw_plan.specs.PlanLaws.{are_values, are_markers}
use Rattle.bw_plan.proofs.CleanTexts.{cleaned_short, text_printable}

-- texts

-- each byte that fails a test, with the question mark in its place, which passes it
all_cleaned : (test : ℕ → Bool) → test 63 ≡ true → (cs : List ℕ) →
    list_all test (map (λ c. cond (test c) c 63) cs) ≡ true
all_cleaned test mark [] = refl
all_cleaned test mark (c ∷ cs) =
    and_from (test (cond (test c) c 63)) (list_all test (map (λ c. cond (test c) c 63) cs)) (go (test c) refl)
    (all_cleaned test mark cs)
  where
    go : (v : Bool) → test c ≡ v → test (cond v c 63) ≡ true
    go true e = e
    go false e = mark

-- a cleaned history may be stored
pub history_clean : (bytes : List ℕ) → list_all is_history_byte (history_of bytes) ≡ true
history_clean bytes = all_cleaned is_history_byte refl (take longest_history (text_cleaned_of bytes))

text_short : (bytes : List ℕ) → length (text_cleaned_of bytes) ≤ length bytes
text_short bytes =
    let n = length-take (prefix_len (λ c. not (c == 0)) bytes) bytes in omega (arith, n)

-- dates

digit_at : (f c : ℕ) → is_like_at f c ≡ true →
    cond (f == 100) (is_ascii_digit (placed f c)) (f == placed f c) ≡ true
digit_at f c h = go (f == 100) refl h
  where
    go : (v : Bool) → (f == 100) ≡ v → cond v (is_ascii_digit c) (list_any (λ s. s == c) (45 ∷ 95 ∷ 58 ∷ 32 ∷ 46 ∷ []))
        ≡ true →
        cond v (is_ascii_digit (cond v c f)) (f == cond v c f) ≡ true
    go true e h = h
    go false e h = eq-eqb f f refl

separated_matches : (form text : List ℕ) → is_like form text ≡ true → matches form (with_separators form text) ≡ true
separated_matches [] [] h = refl
separated_matches [] (c ∷ cs) h = absurd (false≢true h)
separated_matches (f ∷ fs) [] h = absurd (false≢true h)
separated_matches (f ∷ fs) (c ∷ cs) h =
    let both = and_parts (is_like_at f c) (is_like fs cs) h in
    and_from (cond (f == 100) (is_ascii_digit (placed f c)) (f == placed f c)) (matches fs (with_separators fs cs))
    (digit_at f c both.0) (separated_matches fs cs both.1)

separated_long : (form text : List ℕ) → is_like form text ≡ true → length (with_separators form text) ≡ length form
separated_long [] [] h = refl
separated_long [] (c ∷ cs) h = absurd (false≢true h)
separated_long (f ∷ fs) [] h = absurd (false≢true h)
separated_long (f ∷ fs) (c ∷ cs) h =
    let rest = separated_long fs cs (and_parts (is_like_at f c) (is_like fs cs) h).1 in omega (arith, rest)

matches_allowed : (form v : List ℕ) → matches form v ≡ true → are_bytes_allowed (Digits form) v ≡ true
matches_allowed form [] h = refl
matches_allowed form (c ∷ cs) h = h

-- values

-- nothing, or allowed for its field
abbrev pub is_value : Shape → List ℕ → Bool
is_value s v = (length v == 0) || is_none (shape_fault (Some s) v)

empty_value : (s : Shape) → is_value s [] ≡ true
empty_value s = refl

-- the fault of the bytes, by whether they are allowed
abbrev text_fault : Bool → Option FieldFault
text_fault x = cond (not x) (Some BadText) None

-- a value of the right length, with the right bytes
allowed : (s : Shape) (v : List ℕ) → is_length_allowed s (length v) ≡ true → are_bytes_allowed s v ≡ true →
    is_value s v ≡ true
allowed s v e f =
    let free : is_none (shape_fault (Some s) v) ≡ true =
    ap (λ (x : Bool). is_none (cond (not x) (Some BadLength) (text_fault (are_bytes_allowed s v)))) e
    ∙ ap (λ (x : Bool). is_none (text_fault x)) f in
    ap (λ (x : Bool). (length v == 0) || x) free ∙ or_true (length v == 0)
  where
    or_true : (x : Bool) → x || true ≡ true
    or_true true = refl
    or_true false = refl

-- the bytes are as many as a field has
abbrev pub Fills : Shape → List ℕ → Type 0
Fills (Text w) bytes = length bytes ≤ w
Fills (Digits form) bytes = Unit {0}
Fills (Whole w) bytes = length bytes ≡ w
Fills (Maybe w) bytes = length bytes ≡ w
Fills Level bytes = length bytes ≡ 2

right_side : (x y : Bool) → y ≡ true → x || y ≡ true
right_side true y h = refl
right_side false y h = h

value_clean : (s : Shape) (bytes : List ℕ) → Fills s bytes → is_value s (value_of s bytes) ≡ true
value_clean (Text w) bytes h =
    let short = text_short bytes in
    let cleaned = cleaned_short (text_cleaned_of bytes) in
    allowed (Text w) (cleaned_text (text_cleaned_of bytes))
    (le-leb (length (cleaned_text (text_cleaned_of bytes))) w (omega (arith, short, cleaned, h)))
    (text_printable (text_cleaned_of bytes))
value_clean (Digits form) bytes h = go (is_like form (text_cleaned_of bytes)) refl
  where
    go : (v : Bool) → is_like form (text_cleaned_of bytes) ≡ v →
        is_value (Digits form) (cond v (with_separators form (text_cleaned_of bytes)) []) ≡ true
    go true e =
        let v = with_separators form (text_cleaned_of bytes) in
        allowed (Digits form) v
        (right_side (length v == 0) (length v == length form)
        (eq-eqb (length v) (length form) (separated_long form (text_cleaned_of bytes) e)))
        (matches_allowed form v (separated_matches form (text_cleaned_of bytes) e))
    go false e = refl
value_clean (Whole w) bytes h = go (are_zero bytes)
  where
    go : (v : Bool) → is_value (Whole w) (cond v [] bytes) ≡ true
    go true = refl
    go false = allowed (Whole w) bytes (eq-eqb (length bytes) w h) refl
value_clean (Maybe w) bytes h = go (are_zero bytes)
  where
    go : (v : Bool) → is_value (Maybe w) (cond v [] bytes) ≡ true
    go true = refl
    go false =
        allowed (Maybe w) bytes (right_side (length bytes == 0) (length bytes == w) (eq-eqb (length bytes) w h)) refl
value_clean Level bytes h = go (bytes_eq bytes not_given)
  where
    go : (v : Bool) → is_value Level (cond v [] bytes) ≡ true
    go true = refl
    go false =
        allowed Level bytes (right_side (length bytes == 0) (length bytes == 2) (eq-eqb (length bytes) 2 h)) refl

-- each of these fields is filled
abbrev pub AllFill : List Shape → List (List ℕ) → Type 0
AllFill [] fields = Unit {0}
AllFill (s ∷ ss) [] = Unit {0}
AllFill (s ∷ ss) (bytes ∷ fields) = Fills s bytes × AllFill ss fields

pub values_clean : (ss : List Shape) (fields : List (List ℕ)) → AllFill ss fields → are_values ss (values_of ss fields) ≡ true
values_clean [] fields h = refl
values_clean (s ∷ ss) [] h = values_clean ss [] (none ss)
  where
    none : (ss : List Shape) → AllFill ss []
    none [] = tt
    none (s ∷ ss) = tt
values_clean (s ∷ ss) (bytes ∷ fields) h =
    and_from (is_value s (value_of s bytes)) (are_values ss (values_of ss fields)) (value_clean s bytes h.0)
    (values_clean ss fields h.1)

-- one more value that is allowed
pub values_set : (ss : List Shape) (values : List (List ℕ)) (n : ℕ) (v : List ℕ) → are_values ss values ≡ true →
    (length v == 0) || is_none (shape_fault (slice_get ss n) v) ≡ true → are_values ss (slice_set values n v) ≡ true
values_set ss [] n v h k = h
values_set [] (x ∷ xs) n v h k = absurd (false≢true h)
values_set (s ∷ ss) (x ∷ xs) zero v h k =
    and_from (is_value s v) (are_values ss xs) k (and_parts (is_value s x) (are_values ss xs) h).1
values_set (s ∷ ss) (x ∷ xs) (suc n) v h k =
    let both = and_parts (is_value s x) (are_values ss xs) h in
    and_from (is_value s x) (are_values ss (slice_set xs n v)) both.0 (values_set ss xs n v both.1 k)

-- markers

marker_pushed : (frames : ℕ) (before ms : List (ℕ × ℕ)) (c : RawCue) → are_markers frames before ms ≡ true →
    is_marker_kept frames (before ++ ms) c ≡ true →
    are_markers frames before (ms ++ (c.id, c.offset) ∷ []) ≡ true
marker_pushed frames before [] c h k =
    let all = subst (λ (kept : List (ℕ × ℕ)). is_marker_kept frames kept c ≡ true) (append-nil before) k in
    and_from (is_marker_kept frames before c) true all refl
marker_pushed frames before (m ∷ ms) c h k =
    let one = nat_le m.1 frames && not (list_any (λ k. k.0 == m.0) before) && nat_lt (length before) 1024 in
    let both = and_parts one (are_markers frames (before ++ m ∷ []) ms) h in
    and_from one (are_markers frames (before ++ m ∷ []) (ms ++ (c.id, c.offset) ∷ [])) both.0
    (marker_pushed frames (before ++ m ∷ []) ms c both.1
    (subst (λ (kept : List (ℕ × ℕ)). is_marker_kept frames kept c ≡ true) (sym (append_assoc before (m ∷ []) ms)) k))

cue_kept : (frames : ℕ) (kept : List (ℕ × ℕ)) (c : RawCue) → are_markers frames [] kept ≡ true →
    are_markers frames [] (with_cue frames kept c) ≡ true
cue_kept frames kept c h = go (is_marker_kept frames kept c) refl
  where
    go : (v : Bool) → is_marker_kept frames kept c ≡ v →
        are_markers frames [] (cond v (kept ++ (c.id, c.offset) ∷ []) kept) ≡ true
    go true e = marker_pushed frames [] kept c h e
    go false e = h

cues_kept : (frames : ℕ) (kept : List (ℕ × ℕ)) (cues : List RawCue) → are_markers frames [] kept ≡ true →
    are_markers frames [] (fold (with_cue frames) kept cues) ≡ true
cues_kept frames kept [] h = h
cues_kept frames kept (c ∷ cs) h = cues_kept frames (with_cue frames kept c) cs (cue_kept frames kept c h)

-- the markers that are kept may be stored
pub markers_clean : (frames : ℕ) (cues : List RawCue) → are_markers frames [] (markers_of frames cues) ≡ true
markers_clean frames cues = cues_kept frames [] cues refl
