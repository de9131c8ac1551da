-- Where nothing is set to mean that it isn't given, the copy of a recording is the recording.
use Rattle.std.proofs.Common.{◌≡◌, ◌⊎◌, inl, inr, ℕ, zero, suc, ◌-◌, Bool, true, false, cond, not, List, [], ◌∷◌}
use Rattle.std.proofs.Common.{length, refl, ap, subst, arith}
use Rattle.std.specs.Prelude.{◌||◌, ◌==◌, fold, slice_get, slice_set, option_map, unwrap_or}
use Rattle.std.specs.List.{list_all}
use Rattle.std.specs.Str.{bytes_eq}
use Rattle.std.proofs.lemmas.Bool.{and_parts, or_cases, eqb-true, not-true}
use Rattle.bw_model.specs.Take.{Shape, Text, Digits, Whole, Maybe, Level, shapes, not_given}
use Rattle.bw_plan.specs.CleanedContents.{are_zero, value_of, values_of}
use Rattle.bw_plan.specs.PcmRecordings.{pcm_format, set_pcm_outline}
use Rattle.bw_plan.specs.Recordings.{Setting, Field, History, Outline, Recording, FileNotes, notes_of, outline}
use Rattle.bw_plan.specs.Recordings.{no_options, with_setting, raw_fields}
use Rattle.bw_plan.proofs.PcmRecordings.{pcm_comes}
use Rattle.bw_plan.proofs.WholeRecordings.{outlines}
use Rattle.bw_end_to_end.specs.Copies.{is_not_given, given_value, given_values, copy_of, is_given_or_left_out}
use Rattle.bw_end_to_end.specs.Copies.{CopiesAreEqual, PcmCopiesAreEqual}
use Rattle.bw_end_to_end.proofs.Cleaned.{pushed}
use Rattle.bw_end_to_end.proofs.ReadValues.{nothing_given}
use Rattle.bw_end_to_end.proofs.Carried.{comes}

-- no value means that its field isn't given
abbrev AllGiven : List Shape → List (List ℕ) → Type 0
AllGiven [] values = Unit {0}
AllGiven (s ∷ ss) [] = Unit {0}
AllGiven (s ∷ ss) (v ∷ values) = (given_value s v ≡ v) × AllGiven ss values

given-same : (ss : List Shape) (values : List (List ℕ)) → AllGiven ss values → given_values ss values ≡ values
given-same [] values h = refl
given-same (s ∷ ss) [] h = refl
given-same (s ∷ ss) (v ∷ values) h = pushed h.0 (given-same ss values h.1)

-- a cleaned value doesn't mean it
value_given : (s : Shape) (bytes : List ℕ) → given_value s (value_of s bytes) ≡ value_of s bytes
value_given (Text w) bytes = refl
value_given (Digits form) bytes = refl
value_given (Whole w) bytes = go (are_zero bytes) refl
  where
    go : (v : Bool) → are_zero bytes ≡ v → given_value (Whole w) (cond v [] bytes) ≡ cond v [] bytes
    go true e = refl
    go false e = ap (λ (v : Bool). cond v [] bytes) e
value_given (Maybe w) bytes = go (are_zero bytes) refl
  where
    go : (v : Bool) → are_zero bytes ≡ v → given_value (Maybe w) (cond v [] bytes) ≡ cond v [] bytes
    go true e = refl
    go false e = ap (λ (v : Bool). cond v [] bytes) e
value_given Level bytes = go (bytes_eq bytes not_given) refl
  where
    go : (v : Bool) → bytes_eq bytes not_given ≡ v → given_value Level (cond v [] bytes) ≡ cond v [] bytes
    go true e = nothing_given (bytes_eq [] not_given)
    go false e = ap (λ (v : Bool). cond v [] bytes) e

values_given : (ss : List Shape) (fields : List (List ℕ)) → AllGiven ss (values_of ss fields)
values_given [] fields = tt
values_given (s ∷ ss) [] = (nothing_given (is_not_given s []), values_given ss [])
values_given (s ∷ ss) (bytes ∷ fields) = (value_given s bytes, values_given ss fields)

-- nor does one that is set, or left out
one_given : (s : Shape) (v : List ℕ) → (length v == 0) || not (is_not_given s v) ≡ true → given_value s v ≡ v
one_given s [] h = nothing_given (is_not_given s [])
one_given s (c ∷ cs) h = go (or_cases (length (c ∷ cs) == 0) (not (is_not_given s (c ∷ cs))) h)
  where
    go : ((length (c ∷ cs) == 0) ≡ true) ⊎ (not (is_not_given s (c ∷ cs)) ≡ true) → given_value s (c ∷ cs) ≡ c ∷ cs
    go (inl e) = let none : length (c ∷ cs) ≡ 0 = eqb-true (length (c ∷ cs)) 0 e in absurd (omega (arith, none))
    go (inr e) = ap (λ (x : Bool). cond x [] (c ∷ cs)) (not-true (is_not_given s (c ∷ cs)) e)

given_set : (ss : List Shape) (values : List (List ℕ)) (n : ℕ) (v : List ℕ) →
    (length v == 0) || not (unwrap_or (option_map (λ s. is_not_given s v) (slice_get ss n)) false) ≡ true →
    AllGiven ss values → AllGiven ss (slice_set values n v)
given_set [] values n v h k = tt
given_set (s ∷ ss) [] n v h k = tt
given_set (s ∷ ss) (x ∷ xs) zero v h k = (one_given s v h, k.1)
given_set (s ∷ ss) (x ∷ xs) (suc n) v h k = (k.0, given_set ss xs n v h k.1)

setting_given : (r : Outline) (s : Setting) → is_given_or_left_out s ≡ true → AllGiven shapes r.values →
    AllGiven shapes (with_setting r s).values
setting_given r (Field zero v) h k = k
setting_given r (Field (suc n) v) h k = given_set shapes r.values n v h k
setting_given r (History v) h k = k

settings_given : (r : Outline) (ss : List Setting) → list_all is_given_or_left_out ss ≡ true →
    AllGiven shapes r.values →
    AllGiven shapes (fold with_setting r ss).values
settings_given r [] h k = k
settings_given r (s ∷ ss) h k =
    let both = and_parts (is_given_or_left_out s) (list_all is_given_or_left_out ss) h in
    settings_given (with_setting r s) ss both.1 (setting_given r s both.0 k)

copy-same : (r : Recording) → AllGiven shapes r.outline.values → copy_of r ≡ r
copy-same r h =
    ap (λ (v : List (List ℕ)). record r { outline = record r.outline { values = v } })
    (given-same shapes r.outline.values h)

pub copies_are_equal : CopiesAreEqual
copies_are_equal b o r given h =
    let c = comes b o r h in
    let n : FileNotes = notes_of b c.form c.entries in
    let out = outlines o n r.outline c.outlined in
    copy-same r (subst (λ (x : Outline). AllGiven shapes x.values) out.is
    (settings_given (outline n) o.settings given (values_given shapes (raw_fields n.report.bext))))

pub pcm_copies_are_equal : PcmCopiesAreEqual
pcm_copies_are_equal b o p r given h =
    let c = pcm_comes b o p r h in
    let bare : Outline = set_pcm_outline no_options (pcm_format p) (length b - p.skip) in
    copy-same r (subst (λ (x : Outline). AllGiven shapes x.values) c.outline
    (settings_given bare o.settings given (values_given shapes [])))
