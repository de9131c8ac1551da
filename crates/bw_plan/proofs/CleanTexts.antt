-- A cleaned text is one of printable bytes, and no longer; what is clean stays as it is.
use Rattle.std.proofs.Common.{◌≡◌, ◌⊎◌, inl, inr, ℕ, zero, suc, ◌+◌, ◌<◌, ◌≤◌, Bool, true, false, cond}
use Rattle.std.proofs.Common.{List, [], ◌∷◌, ◌++◌, length}
use Rattle.std.proofs.Common.{drop, get_or, map, refl, sym, subst, ◌∙◌, ap, arith, add-one, drop-cons, append-nil, append_assoc}
use Rattle.std.specs.Prelude.{◌||◌, ◌&&◌, ◌==◌, chars, nat_le, encode_utf8_all, slice_index_or}
use Rattle.std.specs.Char.{is_ascii_alphabetic}
use Rattle.std.specs.Str.{is_utf8, IsUtf8, IsAscii}
use Rattle.std.specs.List.{list_all}
use Rattle.std.proofs.lemmas.Bool.{and_parts, and_from, or_cases, leb-true, le-leb, lt-leb, ne_eqb}
use Rattle.std.proofs.lemmas.List.{drop_all}
use Rattle.std.proofs.Math.Bool.{and-false}
use Rattle.std.proofs.lemmas.Str.{chars-IsAscii, chars_from_encodes, is_utf8-from_IsUtf8, IsUtf8-from_is_utf8}
use Rattle.std.proofs.lemmas.Str.{length-le-encodes}
use Rattle.unicode_normalization.specs.Decompose.{decompose_canonical}
use Rattle.bw_model.specs.Take.{is_printable}
use Rattle.bw_plan.specs.CleanedTexts.{letter_byte, characters_of, base_letter, is_end_of_line, byte_of, is_without_byte}
use Rattle.bw_plan.specs.CleanedTexts.{cleaned_after, cleaned_text}

-- the line with one more character
pub line_grown : (line line' : List ℕ) (previous c : ℕ) (cs : List ℕ) (i : ℕ) → i < length cs → c ≡ get_or cs i c →
    line' ≡ cond (is_without_byte previous c) line (line ++ byte_of c ∷ []) →
    line' ++ cleaned_after c (drop (i + 1) cs) ≡ line ++ cleaned_after previous (drop i cs)
line_grown line line' previous c cs i h at is =
    let rest : List ℕ = drop (i + 1) cs in
    let next : drop i cs ≡ c ∷ rest =
    drop-cons cs i c h ∙ ap (λ (x : ℕ). x ∷ drop (suc i) cs) (sym at)
    ∙ ap (λ (n : ℕ). c ∷ drop n cs) (sym (add-one i)) in
    go (is_without_byte previous c) rest is ∙ ap (λ (z : List ℕ). line ++ cleaned_after previous z) (sym next)
  where
    go : (v : Bool) (rest : List ℕ) → line' ≡ cond v line (line ++ byte_of c ∷ []) →
        line' ++ cleaned_after c rest ≡ line ++ cond v (cleaned_after c rest) (byte_of c ∷ cleaned_after c rest)
    go true rest e = ap (λ (z : List ℕ). z ++ cleaned_after c rest) e
    go false rest e =
        ap (λ (z : List ℕ). z ++ cleaned_after c rest) e ∙ append_assoc line (byte_of c ∷ []) (cleaned_after c rest)

-- .. at its end
pub line_ended : (line : List ℕ) (previous : ℕ) (cs : List ℕ) (i : ℕ) → length cs ≤ i →
    line ++ cleaned_after previous (drop i cs) ≡ line
line_ended line previous cs i h =
    ap (λ (z : List ℕ). line ++ cleaned_after previous z) (drop_all i cs h) ∙ append-nil line

-- the first character of a decomposition
pub first_letter : (c : ℕ) (xs : List ℕ) (r : ℕ) → xs ≡ decompose_canonical c → 1 ≤ length xs → r ≡ get_or xs 0 r →
    r ≡ base_letter c
unfolding base_letter
first_letter c xs r same some is = go xs some is ∙ ap (λ (z : List ℕ). slice_index_or z 0 c) same
  where
    go : (xs : List ℕ) → 1 ≤ length xs → r ≡ get_or xs 0 r → r ≡ slice_index_or xs 0 c
    go [] some is = absurd (omega (arith, some))
    go (x ∷ xs) some is = is

-- the characters of UTF-8
pub utf8_read : (text cs : List ℕ) → IsUtf8 text → encode_utf8_all cs ≡ text → cs ≡ characters_of text
utf8_read text cs is e =
    chars_from_encodes cs text is e
    ∙ sym (ap (λ (v : Bool). cond v (chars text) text) (is_utf8-from_IsUtf8 text is))

-- .. and of other bytes
pub latin_read : (text cs : List ℕ) → (IsUtf8 text → ⊥) → cs ≡ map (λ (c : ℕ). c) text → cs ≡ characters_of text
latin_read text cs never e = go (is_utf8 text) refl
  where
    same : (xs : List ℕ) → map (λ (c : ℕ). c) xs ≡ xs
    same [] = refl
    same (x ∷ xs) = ap (λ (z : List ℕ). x ∷ z) (same xs)

    go : (v : Bool) → is_utf8 text ≡ v → cs ≡ cond v (chars text) text
    go true is = absurd (never (IsUtf8-from_is_utf8 text is))
    go false is = e ∙ same text

printable_between : (low high c : ℕ) → 32 ≤ low → high ≤ 126 → nat_le low c && nat_le c high ≡ true →
    is_printable c ≡ true
printable_between low high c from to h =
    let both = and_parts (nat_le low c) (nat_le c high) h in
    let least = leb-true low c both.0 in
    let most = leb-true c high both.1 in
    and_from (nat_le 32 c) (nat_le c 126) (le-leb 32 c (omega (arith, from, least))) (le-leb c 126 (omega (arith, to, most)))

letter_printable : (c : ℕ) → is_ascii_alphabetic c ≡ true → is_printable c ≡ true
letter_printable c h =
    go (or_cases (nat_le 65 c && nat_le c 90) (nat_le 97 c && nat_le c 122) h)
  where
    go : ((nat_le 65 c && nat_le c 90) ≡ true) ⊎ ((nat_le 97 c && nat_le c 122) ≡ true) → is_printable c ≡ true
    go (inl e) = printable_between 65 90 c (omega arith) (omega arith) e
    go (inr e) = printable_between 97 122 c (omega arith) (omega arith) e

printable : (c : ℕ) → is_printable (letter_byte c) ≡ true
printable c = go (is_ascii_alphabetic c) refl
  where
    go : (v : Bool) → is_ascii_alphabetic c ≡ v → is_printable (cond v c 63) ≡ true
    go true e = letter_printable c e
    go false e = refl

byte_printable : (c : ℕ) → is_printable (byte_of c) ≡ true
byte_printable c = go (is_end_of_line c) (is_printable c) refl
  where
    go : (e p : Bool) → is_printable c ≡ p → is_printable (cond e 32 (cond p c (letter_byte (base_letter c)))) ≡ true
    go true p is = refl
    go false true is = is
    go false false is = printable (base_letter c)

after_printable : (previous : ℕ) (cs : List ℕ) → list_all is_printable (cleaned_after previous cs) ≡ true
after_printable previous [] = refl
after_printable previous (c ∷ cs) = go (is_without_byte previous c) (after_printable c cs)
  where
    go : (v : Bool) → list_all is_printable (cleaned_after c cs) ≡ true →
        list_all is_printable (cond v (cleaned_after c cs) (byte_of c ∷ cleaned_after c cs)) ≡ true
    go true rest = rest
    go false rest =
        and_from (is_printable (byte_of c)) (list_all is_printable (cleaned_after c cs)) (byte_printable c) rest

pub text_printable : (text : List ℕ) → list_all is_printable (cleaned_text text) ≡ true
text_printable text = after_printable 0 (characters_of text)

after_short : (previous : ℕ) (cs : List ℕ) → length (cleaned_after previous cs) ≤ length cs
after_short previous [] = omega arith
after_short previous (c ∷ cs) = go (is_without_byte previous c) (after_short c cs)
  where
    go : (v : Bool) → length (cleaned_after c cs) ≤ length cs →
        length (cond v (cleaned_after c cs) (byte_of c ∷ cleaned_after c cs)) ≤ suc (length cs)
    go true rest = omega (arith, rest)
    go false rest = omega (arith, rest)

chars_short : (text : List ℕ) → is_utf8 text ≡ true → length (chars text) ≤ length text
chars_short text h =
    let is = IsUtf8-from_is_utf8 text h in
    let own : is.0 ≡ chars text = chars_from_encodes is.0 text is is.1.1 in
    subst (λ (cs : List ℕ). length cs ≤ length text) own
    (subst (λ (bs : List ℕ). length is.0 ≤ length bs) is.1.1 (length-le-encodes is.0))

-- a cleaned text is no longer than it was
pub cleaned_short : (text : List ℕ) → length (cleaned_text text) ≤ length text
cleaned_short text =
    let cleaned = after_short 0 (characters_of text) in
    let characters = go (is_utf8 text) refl in omega (arith, cleaned, characters)
  where
    go : (v : Bool) → is_utf8 text ≡ v → length (cond v (chars text) text) ≤ length text
    go true h = chars_short text h
    go false h = omega arith

-- what a printable byte is
record Plain (c : ℕ) : Type 0 where
  from : 32 ≤ c
  to : c ≤ 126

plain : (c : ℕ) → is_printable c ≡ true → Plain c
plain c h =
    let both = and_parts (nat_le 32 c) (nat_le c 126) h in
    record { from = leb-true 32 c both.0; to = leb-true c 126 both.1 }

ascii : (v : List ℕ) → list_all is_printable v ≡ true → IsAscii v
ascii [] h i = omega arith
ascii (c ∷ cs) h zero =
    let p = (plain c (and_parts (is_printable c) (list_all is_printable cs) h).0).to in omega (arith, p)
ascii (c ∷ cs) h (suc i) = ascii cs (and_parts (is_printable c) (list_all is_printable cs) h).1 i

-- a printable character has its own byte
byte_same : (c : ℕ) → is_printable c ≡ true → byte_of c ≡ c
byte_same c h =
    let p = plain c h in
    let low = p.from in
    let r : (c == 13) ≡ false = ne_eqb c 13 (λ e. omega (arith, low, e)) in
    let l : (c == 10) ≡ false = ne_eqb c 10 (λ e. omega (arith, low, e)) in
    ap (λ (v : Bool). cond (v || (c == 10)) 32 (cond (is_printable c) c (letter_byte (base_letter c)))) r
    ∙ ap (λ (v : Bool). cond v 32 (cond (is_printable c) c (letter_byte (base_letter c)))) l
    ∙ ap (λ (v : Bool). cond v c (letter_byte (base_letter c))) h

with_byte : (previous c : ℕ) → is_printable c ≡ true → is_without_byte previous c ≡ false
with_byte previous c h =
    let p = plain c h in
    let low = p.from in
    let high = p.to in
    let mark : nat_le 0x300 c ≡ false = lt-leb 0x300 c (omega (arith, high)) in
    let l : (c == 10) ≡ false = ne_eqb c 10 (λ e. omega (arith, low, e)) in
    ap (λ (v : Bool). (v && nat_le c 0x36F) || ((previous == 13) && (c == 10))) mark
    ∙ ap (λ (v : Bool). (previous == 13) && v) l ∙ and-false (previous == 13)

after_same : (previous : ℕ) (v : List ℕ) → list_all is_printable v ≡ true → cleaned_after previous v ≡ v
after_same previous [] h = refl
after_same previous (c ∷ cs) h =
    let both = and_parts (is_printable c) (list_all is_printable cs) h in
    ap (λ (v : Bool). cond v (cleaned_after c cs) (byte_of c ∷ cleaned_after c cs)) (with_byte previous c both.0)
    ∙ ap (λ (x : ℕ). x ∷ cleaned_after c cs) (byte_same c both.0)
    ∙ ap (λ (xs : List ℕ). c ∷ xs) (after_same c cs both.1)

-- a text of printable bytes stays as it is
pub cleaned_same : (v : List ℕ) → list_all is_printable v ≡ true → cleaned_text v ≡ v
cleaned_same v h = ap (cleaned_after 0) (go (is_utf8 v)) ∙ after_same 0 v h
  where
    go : (b : Bool) → cond b (chars v) v ≡ v
    go true = chars-IsAscii v (ascii v h)
    go false = refl
