-- What begins contents, and what is noted after them.
use Rattle.std.proofs.Common.{Result, Ok, Err, OnOk, OnErr, ◌≡◌, ℕ, zero, suc, ◌+◌, ◌≤◌, true, inl, inr, Option, Some}
use Rattle.std.proofs.Common.{false, None, List, [], ◌∷◌, ◌++◌, length, take, drop, refl, sym, ap, ◌∙◌, arith}
use Rattle.std.specs.Prelude.{nat_le, nat_lt, option_map}
use Rattle.std.specs.Str.{bytes_eq}
use Rattle.std.proofs.lemmas.Bool.{and_parts, and_from, ltb-true, le-leb}
use Rattle.std.proofs.lemmas.List.{take_at, take-append-drop, length-append, length-take-le}
use Rattle.bw_model.proofs.BookLemmas.{same_name, name_refl}
use Rattle.bw_model.proofs.Elements.{some_inj}
use Rattle.bw_journal.specs.JournalHeaders.{is_torn}
use Rattle.bw_journal.specs.Notes.{IsPrefixOf, IsShortOf, BeginsWith, has_prefix, Starts}
use Rattle.bw_journal.specs.Notes.{NotesInPart, NotesOver}

none_some : {X : Type 0} {x : X} → None ≡ Some x → ⊥
none_some e = cc

nothing_more : (xs : List ℕ) → xs ++ [] ≡ xs
nothing_more [] = refl
nothing_more (x ∷ xs) = ap (λ (z : List ℕ). x ∷ z) (nothing_more xs)

empty : (xs : List ℕ) → length xs ≤ 0 → xs ≡ []
empty [] h = refl
empty (x ∷ xs) h = absurd (omega arith)

length-take_whole : (n : ℕ) (xs : List ℕ) → length (take n xs) ≤ length xs
length-take_whole zero xs = omega arith
length-take_whole (suc n) [] = omega arith
length-take_whole (suc n) (x ∷ xs) = let more : length (take n xs) ≤ length xs = length-take_whole n xs in omega arith

-- the bytes are at the start of a content that passed the test
pub prefix_begins : (bytes content : List ℕ) → has_prefix bytes content ≡ true → BeginsWith bytes (Some content)
prefix_begins bytes content e =
    let tests = and_parts (nat_le (length bytes) (length content)) (bytes_eq (take (length bytes) content) bytes) e in (
      drop (length bytes) content,
      ap Some (sym (take-append-drop (length bytes) content)
          ∙ ap (λ (x : List ℕ). x ++ drop (length bytes) content)
          (same_name (take (length bytes) content) bytes tests.1)),
    )

-- a content that they begin passes it
pub begins_prefix : (bytes content : List ℕ) → BeginsWith bytes (Some content) → has_prefix bytes content ≡ true
begins_prefix bytes content (rest, is) =
    let same : content ≡ bytes ++ rest = some_inj is in
    let long : length content ≡ length bytes + length rest = ap length same ∙ length-append bytes rest in
    and_from (nat_le (length bytes) (length content)) (bytes_eq (take (length bytes) content) bytes)
    (le-leb (length bytes) (length content) (omega (arith, long)))
    (ap (λ (x : List ℕ). bytes_eq (take (length bytes) x) bytes) same
    ∙ ap (λ (x : List ℕ). bytes_eq x bytes) (take_at bytes rest (length bytes) refl)
    ∙ name_refl bytes)

-- no content that didn't pass begins with them
pub begins_not : {P : Type 0} (bytes content : List ℕ) → BeginsWith bytes (Some content) →
    has_prefix bytes content ≡ false → P
begins_not bytes content begins fails = no_true (sym fails ∙ begins_prefix bytes content begins)
  where
    no_true : {P : Type 0} → false ≡ true → P
    no_true e = cc

-- a content that is torn is a prefix
pub torn_short : (bytes content : List ℕ) → is_torn content bytes ≡ true → IsShortOf bytes (Some content)
torn_short bytes content e =
    let tests = and_parts (nat_lt (length content) (length bytes)) (bytes_eq content (take (length content) bytes)) e in
    inr (
      length content,
      ap Some (same_name content (take (length content) bytes) tests.1),
      ltb-true (length content)
          (length bytes) tests.0,
    )

-- all of the bytes, and a prefix of them
whole_prefix : (bytes : List ℕ) (found : Option (List ℕ)) → BeginsWith bytes found → IsPrefixOf bytes found →
    found ≡ Some bytes
whole_prefix bytes found (rest, is) (inl none) = absurd (none_some (sym none ∙ is))
whole_prefix bytes found (rest, is) (inr (count, prefix)) =
    let same : bytes ++ rest ≡ take count bytes = some_inj (sym is ∙ prefix) in
    let long : length bytes + length rest ≡ length (take count bytes) =
    sym (length-append bytes rest) ∙ ap length same in
    let short = length-take_whole count bytes in
    is ∙ ap (λ (r : List ℕ). Some (bytes ++ r)) (empty rest (omega (arith, long, short))) ∙ ap Some (nothing_more bytes)

not_short : (bytes : List ℕ) (found : Option (List ℕ)) → IsShortOf bytes found → BeginsWith bytes found → ⊥
not_short bytes found (inl none) (rest, is) = none_some (sym none ∙ is)
not_short bytes found (inr (count, prefix, short)) (rest, is) =
    let long : length bytes + length rest ≡ length (take count bytes) =
    sym (length-append bytes rest) ∙ ap length (some_inj (sym is ∙ prefix)) in
    let few : length (take count bytes) ≡ count = length-take-le count bytes (omega (arith, short)) in
    omega (arith, long, few, short)

short_prefix : (bytes : List ℕ) (found : Option (List ℕ)) → IsShortOf bytes found → IsPrefixOf bytes found
short_prefix bytes found (inl none) = inl none
short_prefix bytes found (inr (count, prefix, short)) = inr (count, prefix)

pub starts_whole : (bytes : List ℕ) (before after : Option (List ℕ)) → BeginsWith bytes before → after ≡ before →
    Starts bytes before after
starts_whole bytes before after w same = record {
  stands = (w.0, same ∙ w.1);
  written = λ prefix. same ∙ whole_prefix bytes before w prefix;
  kept = λ x. same;
  only = inl same;
}

pub starts_short : (bytes : List ℕ) (before after : Option (List ℕ)) → IsShortOf bytes before → after ≡ Some bytes →
    Starts bytes before after
starts_short bytes before after short is = record {
  stands = ([], is ∙ ap Some (sym (nothing_more bytes)));
  written = λ prefix. is;
  kept = λ whole. absurd (not_short bytes before short whole);
  only = inr (short_prefix bytes before short);
}

pub notes_cut : (offset : ℕ) (bytes : List ℕ) (before after : Option (List ℕ)) →
    after ≡ option_map (take offset) before →
    NotesInPart offset bytes before after
notes_cut offset bytes before after is = λ base count was long. (
  zero,
  is ∙ ap (option_map (take offset)) was
      ∙ ap Some (take_at base (take count bytes) offset long ∙ sym (nothing_more base)),
)

-- a prefix of the bytes that is noted over whatever was there
notes_prefix : (offset count : ℕ) (bytes : List ℕ) (before after : Option (List ℕ)) →
    NotesOver offset (take count bytes) before after → NotesInPart offset bytes before after
notes_prefix offset k bytes before after (old, is, fits, new) = λ base count was long. (
  k,
  new ∙ ap (λ (x : List ℕ). Some (take offset x ++ take k bytes)) (some_inj (sym is ∙ was))
      ∙ ap (λ (x : List ℕ). Some (x ++ take k bytes)) (take_at base (take count bytes) offset long),
)

-- a prefix that wasn't noted
pub either_part : {T E : Type 0} (answer : Result T E) (offset count : ℕ) (bytes : List ℕ)
    (before after : Option (List ℕ)) →
    OnOk answer (NotesOver offset (take count bytes) before after) →
    OnErr answer (after ≡ option_map (take offset) before) →
    NotesInPart offset bytes before after
either_part (Ok x) offset count bytes before after over cut = notes_prefix offset count bytes before after over
either_part (Err e) offset count bytes before after over cut = notes_cut offset bytes before after cut
