-- Settings that texts spell are allowed, and of bytes.
use Rattle.std.proofs.Common.{◌≡◌, ◌⊎◌, inl, inr, ℕ, zero, suc, ◌+◌, ◌-◌, ◌*◌, ◌<◌, ◌≤◌, Bool, true, false, cond, List}
use Rattle.std.proofs.Common.{[], ◌∷◌, ◌++◌, length, take, drop, Option, Some, None, Result, Ok, Err, refl, subst}
use Rattle.std.proofs.Common.{arith, ◌∙◌}
use Rattle.std.specs.Prelude.{◌&&◌, ◌==◌, ◌%◌, nat_le, option_map, option_and_then, codes, not}
use Rattle.std.specs.List.{list_all, prefix_len}
use Rattle.std.specs.Str.{bytes_eq}
use Rattle.std.proofs.lemmas.Bool.{and_parts, and_from, or_cases, leb-true, leb-false, lt-ltb, eqb-true, eqb-false}
use Rattle.std.proofs.lemmas.Bool.{false≢true}
use Rattle.std.proofs.lemmas.List.Folds.{list_all-append}
use Rattle.hex.specs.Hex.{decode_of, decode_pairs, pair_value, digit_or_error, hex_digit_value, ◌>>=◌}
use Rattle.hex.specs.declared.error.FromHexError.{FromHexError}
use Rattle.hex.specs.declared.error.FromHexError.TheVariants.{OddLength}
use Rattle.bw_model.specs.Bytes.{le16, le64}
use Rattle.bw_model.specs.Take.{Text, Digits}
use Rattle.bw_model.specs.Wire.{is_below, are_bytes}
use Rattle.bw_model.proofs.Elements.{some_inj}
use Rattle.bw_plan.specs.AllowedSettings.{is_setting, are_settings}
use Rattle.bw_plan.specs.Recordings.{Setting, Field, History, Options}
use Rattle.bw_plan.specs.SettingTexts.{setting_of, spelled_setting, spelled_field, spelled_value, decoded_value}
use Rattle.bw_plan.specs.SettingTexts.{number_of, level_of, tag_of, allowed}
use Rattle.bw_plan.specs.declared.options.Strictness.{Strictness}
use Rattle.bw_plan.proofs.WholeRecordings.{not_ok, ok_inj}
use Rattle.bw_recorder.specs.SettingLists.{settings_after, options_of}
use Rattle.bw_end_to_end.specs.Copies.{is_setting_of_bytes}
use Rattle.bw_end_to_end.proofs.CarriedNumbers.{time_bytes, level_bytes}
use Rattle.bw_end_to_end.proofs.FittingRequests.{value_bytes}

none_some : {X : Type 0} {x : X} → None ≡ Some x → ⊥
none_some h = cc

-- Bytes of hex digits.

digit_small : (c v : ℕ) → hex_digit_value c ≡ Some v → v ≤ 15
digit_small c v h = go (nat_le 65 c && nat_le c 70) refl (nat_le 97 c && nat_le c 102) refl
    (nat_le 48 c && nat_le c 57) refl h
  where
    high : (low top : ℕ) → nat_le low c && nat_le c top ≡ true → c ≤ top
    high low top e = leb-true c top (and_parts (nat_le low c) (nat_le c top) e).1

    go : (x : Bool) → nat_le 65 c && nat_le c 70 ≡ x → (y : Bool) → nat_le 97 c && nat_le c 102 ≡ y →
        (z : Bool) → nat_le 48 c && nat_le c 57 ≡ z →
        cond x (Some (c - 55)) (cond y (Some (c - 87)) (cond z (Some (c - 48)) None)) ≡ Some v → v ≤ 15
    go true e y f z g h = let top = high 65 70 e in let same : c - 55 ≡ v = some_inj h in omega (arith, top, same)
    go false e true f z g h = let top = high 97 102 f in let same : c - 87 ≡ v = some_inj h in omega (arith, top, same)
    go false e false f true g h = let top = high 48 57 g in let same : c - 48 ≡ v = some_inj h in omega
        (arith, top, same)
    go false e false f false g h = absurd (none_some h)

pair_below : (high low i byte : ℕ) → pair_value high low i ≡ Ok byte → is_below 256 byte ≡ true
pair_below high low i byte h = go (hex_digit_value high) refl (hex_digit_value low) refl h
  where
    go : (x : Option ℕ) → hex_digit_value high ≡ x → (y : Option ℕ) → hex_digit_value low ≡ y →
        (digit_or_error high i x >>= (λ a. digit_or_error low (i + 1) y >>= (λ b. Ok (a * 16 + b)))) ≡ Ok byte →
        is_below 256 byte ≡ true
    go None e y f h = absurd (not_ok h)
    go (Some a) e None f h = absurd (not_ok h)
    go (Some a) e (Some b) f h =
        let same : a * 16 + b ≡ byte = ok_inj h in
        let one = digit_small high a e in
        let two = digit_small low b f in
        lt-ltb byte 256 (omega (arith, same, one, two))

pairs_bytes : (i : ℕ) (text bytes : List ℕ) → decode_pairs i text ≡ Ok bytes → are_bytes bytes ≡ true
unfolding decode_pairs
pairs_bytes i [] bytes h = subst (λ (x : List ℕ). are_bytes x ≡ true) (ok_inj h) refl
pairs_bytes i (digit ∷ []) bytes h = absurd (not_ok h)
pairs_bytes i (high ∷ low ∷ rest) bytes h =
    go (pair_value high low i) refl (decode_pairs (i + 2) rest) (pairs_bytes (i + 2) rest) h
  where
    go : (x : Result ℕ FromHexError) → pair_value high low i ≡ x → (y : Result (List ℕ) FromHexError) →
        ((bytes : List ℕ) → y ≡ Ok bytes → are_bytes bytes ≡ true) →
        (x >>= (λ byte. y >>= (λ more. Ok (byte ∷ more)))) ≡ Ok bytes → are_bytes bytes ≡ true
    go (Err f) e y rest h = absurd (not_ok h)
    go (Ok byte) e (Err f) rest h = absurd (not_ok h)
    go (Ok byte) e (Ok more) rest h =
        subst (λ (x : List ℕ). are_bytes x ≡ true) (ok_inj h)
        (and_from (is_below 256 byte) (are_bytes more) (pair_below high low i byte e) (rest more refl))

decoded_bytes : (text v : List ℕ) → decoded_value (decode_of text) ≡ Some v → are_bytes v ≡ true
decoded_bytes text v h = go (length text % 2 == 1) h
  where
    found : (x : Result (List ℕ) FromHexError) → decode_pairs 0 text ≡ x → decoded_value x ≡ Some v → are_bytes v ≡ true
    found (Ok bytes) e h = subst (λ (x : List ℕ). are_bytes x ≡ true) (some_inj h) (pairs_bytes 0 text bytes e)
    found (Err f) e h = absurd (none_some h)

    go : (x : Bool) → decoded_value (cond x (Err OddLength) (decode_pairs 0 text)) ≡ Some v → are_bytes v ≡ true
    go true h = absurd (none_some h)
    go false h = found (decode_pairs 0 text) refl h

-- Values.

mapped_bytes : (f : ℕ → List ℕ) → ((n : ℕ) → are_bytes (f n) ≡ true) → (x : Option ℕ) (v : List ℕ) →
    option_map f x ≡ Some v → are_bytes v ≡ true
mapped_bytes f all None v h = absurd (none_some h)
mapped_bytes f all (Some n) v h = subst (λ (x : List ℕ). are_bytes x ≡ true) (some_inj h) (all n)

-- an allowed text of one of the first five fields
text_bytes : (tag : ℕ) (v : List ℕ) → (nat_le 8 tag ≡ false) → ((tag == 6) ≡ false) → ((tag == 7) ≡ false) →
    is_setting (Field tag v) ≡ true → are_bytes v ≡ true
text_bytes tag [] e f g h = refl
text_bytes zero (c ∷ cs) e f g h = absurd (none (or_cases (length (c ∷ cs) == 0) false h))
  where
    none : ((length (c ∷ cs) == 0) ≡ true) ⊎ (false ≡ true) → ⊥
    none (inl e) = let long : length (c ∷ cs) ≡ 0 = eqb-true (length (c ∷ cs)) 0 e in omega (arith, long)
    none (inr e) = false≢true e
text_bytes (suc zero) (c ∷ cs) e f g h = value_bytes (Text 256) c cs refl h tt
text_bytes (suc (suc zero)) (c ∷ cs) e f g h = value_bytes (Text 32) c cs refl h tt
text_bytes (suc (suc (suc zero))) (c ∷ cs) e f g h = value_bytes (Text 32) c cs refl h tt
text_bytes (suc (suc (suc (suc zero)))) (c ∷ cs) e f g h = value_bytes (Digits (codes "dddd-dd-dd")) c cs refl h tt
text_bytes (suc (suc (suc (suc (suc zero))))) (c ∷ cs) e f g h = value_bytes (Digits (codes "dd:dd:dd")) c cs refl h tt
text_bytes (suc (suc (suc (suc (suc (suc n)))))) (c ∷ cs) e f g h =
    let low = leb-false 8 (suc (suc (suc (suc (suc (suc n)))))) e in
    let six = eqb-false (suc (suc (suc (suc (suc (suc n)))))) 6 f in
    let seven = eqb-false (suc (suc (suc (suc (suc (suc n)))))) 7 g in
    absurd (other n low six seven)
  where
    other : (n : ℕ) → suc (suc (suc (suc (suc (suc n))))) < 8 → (suc (suc (suc (suc (suc (suc n))))) ≡ 6 → ⊥) →
        (suc (suc (suc (suc (suc (suc n))))) ≡ 7 → ⊥) → ⊥
    other zero low six seven = six refl
    other (suc zero) low six seven = seven refl
    other (suc (suc n)) low six seven = omega (arith, low)

value_of_bytes : (tag : ℕ) (text v : List ℕ) → spelled_value tag text ≡ Some v → is_setting (Field tag v) ≡ true →
    are_bytes v ≡ true
value_of_bytes tag text v h k = go (length text == 0) (tag == 6) refl (tag == 7) refl (nat_le 8 tag) refl h
  where
    go : (a b : Bool) → (tag == 6) ≡ b → (c : Bool) → (tag == 7) ≡ c → (d : Bool) → nat_le 8 tag ≡ d →
        cond a (Some []) (cond b (option_map le64 (number_of text)) (cond c (decoded_value (decode_of text))
        (cond d (option_map le16 (level_of text)) (Some text)))) ≡ Some v → are_bytes v ≡ true
    go true b e c f d g h = subst (λ (x : List ℕ). are_bytes x ≡ true) (some_inj h) refl
    go false true e c f d g h = mapped_bytes le64 time_bytes (number_of text) v h
    go false false e true f d g h = decoded_bytes text v h
    go false false e false f true g h = mapped_bytes le16 level_bytes (level_of text) v h
    go false false e false f false g h = text_bytes tag v g e f k

-- Settings.

pub record IsSpelled (s : Setting) : Type 0 where
  pub allowed : is_setting s ≡ true
  pub of_bytes : is_setting_of_bytes s ≡ true

allowed_is : (x s : Setting) → allowed x ≡ Some s → (is_setting x ≡ true) × (x ≡ s)
allowed_is x s h = go (is_setting x) refl h
  where
    go : (v : Bool) → is_setting x ≡ v → cond v (Some x) None ≡ Some s → (is_setting x ≡ true) × (x ≡ s)
    go true e h = (e, some_inj h)
    go false e h = absurd (none_some h)

field_spelled : (tag : Option ℕ) (text : List ℕ) (s : Setting) → spelled_field tag text ≡ Some s → IsSpelled s
field_spelled None text s h = absurd (none_some h)
field_spelled (Some tag) text s h = go (spelled_value tag text) refl h
  where
    go : (x : Option (List ℕ)) → spelled_value tag text ≡ x → option_and_then (λ v. allowed (Field tag v)) x ≡ Some s →
        IsSpelled s
    go None e h = absurd (none_some h)
    go (Some v) e h =
        let a = allowed_is (Field tag v) s h in
        subst IsSpelled a.1 (record { allowed = a.0; of_bytes = value_of_bytes tag text v e a.0 })

spelled : (key text : List ℕ) (s : Setting) → spelled_setting key text ≡ Some s → IsSpelled s
spelled key text s h = go (bytes_eq key (codes "history")) h
  where
    go : (v : Bool) → cond v (allowed (History text)) (spelled_field (tag_of key) text) ≡ Some s → IsSpelled s
    go true h =
        let a = allowed_is (History text) s h in subst IsSpelled a.1 (record { allowed = a.0; of_bytes = refl })
    go false h = field_spelled (tag_of key) text s h

setting_spelled : (text : List ℕ) (s : Setting) → setting_of text ≡ Some s → IsSpelled s
setting_spelled text s h = go (n == length text) h
  where
    n : ℕ
    n = prefix_len (λ c. not (c == 61)) text

    go : (v : Bool) → cond v None (spelled_setting (take n text) (drop (n + 1) text)) ≡ Some s → IsSpelled s
    go true h = absurd (none_some h)
    go false h = spelled (take n text) (drop (n + 1) text) s h

pub record AreSpelled (ss : List Setting) : Type 0 where
  pub allowed : are_settings ss ≡ true
  pub of_bytes : list_all is_setting_of_bytes ss ≡ true

one_more : (kept : List Setting) (s : Setting) → AreSpelled kept → IsSpelled s → AreSpelled (kept ++ s ∷ [])
one_more kept s k h = record {
  allowed = list_all-append is_setting kept (s ∷ [])
      ∙ and_from (are_settings kept) (is_setting s && true) k.allowed (and_from (is_setting s) true h.allowed refl);
  of_bytes = list_all-append is_setting_of_bytes kept (s ∷ [])
      ∙ and_from (list_all is_setting_of_bytes kept) (is_setting_of_bytes s && true) k.of_bytes
      (and_from (is_setting_of_bytes s) true h.of_bytes refl);
}

settings_spelled : (kept : List Setting) (texts : List (List ℕ)) (ss : List Setting) →
    settings_after kept texts ≡ Some ss → AreSpelled kept → AreSpelled ss
settings_spelled kept [] ss h k = subst AreSpelled (some_inj h) k
settings_spelled kept (text ∷ texts) ss h k =
    go (setting_of text) refl h (λ s. settings_spelled (kept ++ s ∷ []) texts ss)
  where
    go : (x : Option Setting) → setting_of text ≡ x →
        ◌≡◌ {A = Option (List Setting)} (elim x [
          | None ↦ None
          | Some s ↦ settings_after (kept ++ s ∷ []) texts
        ]) (Some ss) →
        ((s : Setting) → settings_after (kept ++ s ∷ []) texts ≡ Some ss → AreSpelled (kept ++ s ∷ []) →
        AreSpelled ss) → AreSpelled ss
    go None e h rest = absurd (none_some h)
    go (Some s) e h rest = rest s h (one_more kept s k (setting_spelled text s e))

-- what texts spell is allowed, and of bytes
pub options_spelled : (texts : List (List ℕ)) (strict : Strictness) (frames : Option ℕ) (o : Options) →
    options_of texts strict frames ≡ Some o → AreSpelled o.settings
options_spelled texts strict frames o h = go (settings_after [] texts) refl h
  where
    go : (x : Option (List Setting)) → settings_after [] texts ≡ x →
        ◌≡◌ {A = Option Options} (elim x [
          | None ↦ None
          | Some settings ↦ Some (record { settings = settings; strict = strict; frames = frames })
        ]) (Some o) → AreSpelled o.settings
    go None e h = absurd (none_some h)
    go (Some settings) e h =
        subst (λ (z : Options). AreSpelled z.settings) (some_inj h)
        (settings_spelled [] texts settings e (record { allowed = refl; of_bytes = refl }))
