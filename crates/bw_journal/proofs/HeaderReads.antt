-- Headers are read back as they were written.
use Rattle.std.proofs.Common.{◌≡◌, ◌⊎◌, inl, inr, ℕ, zero, suc, ◌/◌, ◌%◌, ◌<◌, ◌≤◌, ◌^◌, Bool, true, false, cond, ◌&&◌, ◌||◌}
use Rattle.std.proofs.Common.{Option, Some, None, Ok, Err, Result, List, [], ◌∷◌, ◌++◌, length, take, drop}
use Rattle.std.proofs.Common.{refl, sym, ap, ◌∙◌, append_assoc, arith}
use Rattle.std.specs.Prelude.{nat_lt, nat_le, ◌==◌, slice_index}
use Rattle.std.specs.Int.{w32, to_be_bytes}
use Rattle.std.specs.List.{list_all}
use Rattle.std.specs.Str.{bytes_eq}
use Rattle.std.proofs.lemmas.Bool.{and_from, and_parts, eq-eqb, eqb-true, lt-ltb, ltb-true, leb-true}
use Rattle.std.proofs.lemmas.List.{length-take-le, take_at, drop_at, length-append, take-append-drop}
use Rattle.std.proofs.lemmas.List.Folds.{list_all-append}
use Rattle.sha2.specs.Sha256.{sha256, digest_bytes, final_hash, initial_hash_256}
use Rattle.hex.specs.Hex.{encode_lower, encode_with, lower_digits, decode_of}
use Rattle.hex.specs.declared.error.FromHexError.{FromHexError}
use Rattle.hex.proofs.HexLemmas.{decode_of-encode_lower, decode_of-ok, length-encode_with}
use Rattle.bw_model.specs.Bytes.{le32, u32_at}
use Rattle.bw_model.specs.Wire.{are_bytes, is_below}
use Rattle.bw_model.proofs.ByteNumbers.{wide32, number_at-written, IsBytes-from_test, are_bytes-parts}
use Rattle.bw_model.proofs.BookLemmas.{name_refl, same_name}
use Rattle.bw_model.proofs.Ranges.{are_bytes_lem}
use Rattle.bw_journal.specs.Lines.{AreLineBytes, IsTorn, before_zero}
use Rattle.bw_journal.specs.Seals.{check}
use Rattle.bw_journal.specs.JournalHeaders.{Header, existed_flag, flag_of, magic, header_content, header_line, header_bytes}
use Rattle.bw_journal.specs.JournalHeaders.{header_len, header_with, header_in, header_spelled, first_header, is_torn, is_torn_header}
use Rattle.bw_journal.specs.NotedJournals.{IsHeader, HeadersReadBack, CutHeadersAreNotBegun, HeadersAreClean}
use Rattle.bw_journal.specs.NotedJournals.{TornHeadersAreNotBegun}
use Rattle.bw_journal.specs.Replays.{NotBegun, NotAJournal, replay, replayed_after}
use Rattle.bw_journal.proofs.Lengths.{check-length, header_content_len, header_plain_len, length-header_bytes}
use Rattle.bw_journal.proofs.LineLaws.{clean_append, clean_kept, torn_prefix, IsPrefixBeforeZero}

-- digests have bytes

low_byte : (n : ℕ) → is_below 256 (n % 256) ≡ true
low_byte n = lt-ltb (n % 256) 256 (omega arith)

bytes_from : (xs ys : List ℕ) → are_bytes xs ≡ true → are_bytes ys ≡ true → are_bytes (xs ++ ys) ≡ true
bytes_from xs ys h k = list_all-append (is_below 256) xs ys ∙ and_from (are_bytes xs) (are_bytes ys) h k

word_bytes : (n : ℕ) → are_bytes (to_be_bytes w32 n) ≡ true
word_bytes n =
    rw (low_byte (n / 256 ^ 3), low_byte (n / 256 ^ 2), low_byte (n / 256 ^ 1), low_byte n) refl

le32_bytes : (n : ℕ) → are_bytes (le32 n) ≡ true
le32_bytes n =
    rw (low_byte (n / 256 ^ 3), low_byte (n / 256 ^ 2), low_byte (n / 256 ^ 1), low_byte n) refl

digest_words : (h : List ℕ) (n : ℕ) → are_bytes (digest_bytes h n) ≡ true
unfolding digest_bytes
digest_words h zero = refl
digest_words h (suc n) =
    bytes_from (digest_bytes h n) (to_be_bytes w32 (slice_index h n)) (digest_words h n) (word_bytes (slice_index h n))

check_bytes : (c : List ℕ) → are_bytes (check c) ≡ true
unfolding check sha256
check_bytes c = (are_bytes-parts 8 (sha256 c) (digest_words (final_hash initial_hash_256 c) 8)).0

flag_bytes : (existed : Bool) (more : List ℕ) → are_bytes more ≡ true → are_bytes (existed_flag existed ∷ more) ≡ true
flag_bytes true more h = h
flag_bytes false more h = h

-- the bytes that a header's digits spell
abbrev pub header_plain : List ℕ → Header → List ℕ
header_plain name h = header_content name h ++ check (header_content name h)

plain_bytes : (name : List ℕ) (h : Header) → are_bytes (header_plain name h) ≡ true
unfolding header_content
plain_bytes name h =
    bytes_from (header_content name h) (check (header_content name h))
    (bytes_from (le32 h.limit) (existed_flag h.existed ∷ check name) (le32_bytes h.limit)
    (flag_bytes h.existed (check name) (check_bytes name)))
    (check_bytes (header_content name h))

-- digits aren't zero, nor do they end a line

all_high : (xs : List ℕ) (i : ℕ) → list_all (λ d. nat_le 48 d) xs ≡ true → i < length xs → 48 ≤ slice_index xs i
all_high [] i h low = absurd (omega (arith, low))
all_high (x ∷ xs) zero h low = leb-true 48 x (and_parts (nat_le 48 x) (list_all (λ d. nat_le 48 d) xs) h).0
all_high (x ∷ xs) (suc i) h low =
    all_high xs i (and_parts (nat_le 48 x) (list_all (λ d. nat_le 48 d) xs) h).1 (omega (arith, low))

digit_high : (n : ℕ) → n < 16 → 48 ≤ slice_index lower_digits n
digit_high n h = all_high lower_digits n refl h

digits_clean : (bs : List ℕ) → are_bytes bs ≡ true → AreLineBytes (encode_lower bs)
unfolding encode_with
digits_clean [] h = tt
digits_clean (b ∷ bs) h =
    let parts = and_parts (is_below 256 b) (are_bytes bs) h in
    let low : b < 256 = ltb-true b 256 parts.0 in
    let first = digit_high (b / 16) (omega (arith, low)) in
    let second = digit_high (b % 16) (omega arith) in (
      λ e. absurd (omega (arith, e, first)),
      λ e. absurd (omega (arith, e, first)),
      (λ e. absurd (omega (arith, e, second)), λ e. absurd (omega (arith, e, second)), digits_clean bs parts.1),
    )

magic_clean : AreLineBytes magic
magic_clean = (
  λ e. absurd (omega (arith, e)),
  λ e. absurd (omega (arith, e)),
  (
    λ e. absurd (omega (arith, e)),
    λ e. absurd (omega (arith, e)),
    (
      λ e. absurd (omega (arith, e)),
      λ e. absurd (omega (arith, e)),
      (λ e. absurd (omega (arith, e)), λ e. absurd (omega (arith, e)), tt),
    ),
  ),
)

line_clean : (p : List ℕ) → are_bytes p ≡ true → AreLineBytes (magic ++ encode_lower p)
line_clean p h = clean_append magic (encode_lower p) magic_clean (digits_clean p h)

pub headers_are_clean : HeadersAreClean
unfolding header_line
headers_are_clean name h =
    (magic ++ encode_lower (header_plain name h), line_clean (header_plain name h) (plain_bytes name h), refl)

-- a header is read again

flag_again : (limit : ℕ) (existed : Bool) (digest : List ℕ) →
    header_with limit (flag_of (existed_flag existed)) digest
    ≡ Some (record { limit = limit; existed = existed }, digest)
flag_again limit true digest = refl
flag_again limit false digest = refl

header_again : (name : List ℕ) (h : Header) → IsHeader h → header_in (header_plain name h) ≡ Some (h, check name)
unfolding header_in header_content
header_again name h small =
    let c = le32 h.limit ++ existed_flag h.existed ∷ check name in
    let long : (length (c ++ check c) == 21) ≡ true = eq-eqb _ _ (header_plain_len name h) in
    let first : take 13 (c ++ check c) ≡ c = take_at c (check c) 13 (header_content_len name h) in
    let last : drop 13 (c ++ check c) ≡ check c = drop_at c (check c) 13 (header_content_len name h) in
    let number : u32_at (c ++ check c) 0 ≡ h.limit =
    number_at-written w32 (2 ^ 32) wide32 h.limit (existed_flag h.existed ∷ check name ++ check c) small in
    let named : take 8 (check name ++ check c) ≡ check name = take_at (check name) (check c) 8 (check-length name) in
    rw (long, last, first, name_refl (check c), number) (
    ap (λ (d : List ℕ). header_with h.limit (flag_of (existed_flag h.existed)) d) named
    ∙ flag_again h.limit h.existed (check name))

pub headers_read_back : HeadersReadBack
unfolding first_header header_line
headers_read_back name h more small =
    let p = header_plain name h in
    let bytes = header_bytes name h ++ more in
    let digits : length (encode_lower p) ≡ 42 = omega (arith, length-encode_with lower_digits p, header_plain_len name h) in
    let spelled : take 42 (drop 4 bytes) ≡ encode_lower p =
    ap (take 42) (append_assoc (encode_lower p) (2 ∷ []) more) ∙ take_at (encode_lower p) (2 ∷ more) 42 digits in
    let read : decode_of (take 42 (drop 4 bytes)) ≡ Ok p =
    ap decode_of spelled ∙ decode_of-encode_lower p (IsBytes-from_test p (plain_bytes name h)) in
    let there : take header_len bytes ≡ header_line p =
    take_at (header_bytes name h) more header_len (length-header_bytes name h) in
    ap (header_spelled bytes) read
    ∙ ap (λ (x : List ℕ). cond (bytes_eq x (header_line p)) (header_in p) None) there
    ∙ ap (λ (v : Bool). cond v (header_in p) None) (name_refl (header_line p))
    ∙ header_again name h small

-- what is torn isn't a header

none_some : {X : Type 0} {x : X} → None ≡ Some x → ⊥
none_some e = cc

-- if a header is read, none of its bytes is zero
pub first_header_long : (bytes : List ℕ) (x : Header × List ℕ) → first_header bytes ≡ Some x →
    header_len ≤ length (before_zero bytes)
unfolding first_header header_line header_in
first_header_long bytes x e = go (decode_of (take 42 (drop 4 bytes))) refl e
  where
    go : (r : Result (List ℕ) FromHexError) → decode_of (take 42 (drop 4 bytes)) ≡ r →
        header_spelled bytes r ≡ Some x → header_len ≤ length (before_zero bytes)
    go (Err f) d e = absurd (none_some e)
    go (Ok p) d e = there (bytes_eq (take header_len bytes) (header_line p)) refl (length p == 21) refl e
      where
        fits : are_bytes p ≡ true
        fits = are_bytes_lem p (decode_of-ok (take 42 (drop 4 bytes)) p d).3

        there : (v : Bool) → bytes_eq (take header_len bytes) (header_line p) ≡ v → (w : Bool) → (length p == 21) ≡ w →
            cond v (cond (w && bytes_eq (drop 13 p) (check (take 13 p)))
            (header_with (u32_at p 0) (flag_of (slice_index p 4)) (take 8 (drop 5 p))) None) None ≡ Some x →
            header_len ≤ length (before_zero bytes)
        there false t w u e = absurd (none_some e)
        there true t false u e = absurd (none_some e)
        there true t true u e =
            let same : take header_len bytes ≡ header_line p = same_name (take header_len bytes) (header_line p) t in
            let whole : bytes ≡ (magic ++ encode_lower p) ++ 2 ∷ drop header_len bytes =
            sym (take-append-drop header_len bytes) ∙ ap (λ (y : List ℕ). y ++ drop header_len bytes) same
            ∙ append_assoc (magic ++ encode_lower p) (2 ∷ []) (drop header_len bytes) in
            let kept = ap before_zero whole ∙ clean_kept (magic ++ encode_lower p) (2 ∷ drop header_len bytes) (line_clean p fits) in
            let long = ap length kept ∙ length-append (magic ++ encode_lower p) (2 ∷ before_zero (drop header_len bytes)) in
            omega (
              arith,
              long,
              length-append magic (encode_lower p),
              length-encode_with lower_digits p,
              eqb-true (length p) 21 u,
            )

-- a prefix of bytes is torn from them
prefix_torn : (whole : List ℕ) (count : ℕ) → count < length whole → is_torn (take count whole) whole ≡ true
prefix_torn whole count short =
    let long : length (take count whole) ≡ count = length-take-le count whole (omega arith) in
    ap (λ (n : ℕ). nat_lt n (length whole) && bytes_eq (take count whole) (take n whole)) long
    ∙ and_from (nat_lt count (length whole)) (bytes_eq (take count whole) (take count whole))
    (lt-ltb count (length whole) short) (name_refl (take count whole))

or_right : (v : Bool) → v || true ≡ true
or_right true = refl
or_right false = refl

torn_header : (limit : ℕ) (name : List ℕ) (existed : Bool) (bytes : List ℕ) →
    is_torn (before_zero bytes) (header_bytes name (record { limit = limit; existed = existed })) ≡ true →
    is_torn_header limit name bytes ≡ true
torn_header limit name false bytes torn =
    ap (λ (v : Bool). v || is_torn (before_zero bytes) (header_bytes name (record { limit = limit; existed = true }))) torn
torn_header limit name true bytes torn =
    ap (λ (v : Bool). is_torn (before_zero bytes) (header_bytes name (record { limit = limit; existed = false })) || v) torn
    ∙ or_right _

pub torn_headers_are_not_begun : TornHeadersAreNotBegun
unfolding replay
torn_headers_are_not_begun name h found small torn other = go p.whole
  where
    whole : List ℕ
    whole = header_bytes name h

    p : IsPrefixBeforeZero whole found
    p = torn_prefix whole found torn

    go : (p.count < length whole) ⊎ (found ≡ whole) → replay h.limit name found ≡ Err NotBegun
    go (inr same) = absurd (other same)
    go (inl short) = by (first_header found) refl
      where
        few : length (before_zero found) < header_len
        few =
            omega (
              arith,
              ap length p.prefix,
              length-take-le p.count whole (omega (arith, short)),
              short,
              length-header_bytes name h,
            )

        is : is_torn (before_zero found) whole ≡ true
        is = ap (λ (x : List ℕ). is_torn x whole) p.prefix ∙ prefix_torn whole p.count short

        by : (o : Option (Header × List ℕ)) → first_header found ≡ o → replayed_after h.limit name found o ≡ Err NotBegun
        by (Some x) e = absurd (omega (arith, few, first_header_long found x e))
        by None e =
            ap (λ (v : Bool). cond v (Err NotBegun) (Err NotAJournal)) (torn_header h.limit name h.existed found is)

-- a prefix is torn
pub torn_cut : (whole : List ℕ) (count : ℕ) → IsTorn whole (take count whole)
torn_cut whole zero = tt
torn_cut [] (suc count) = tt
torn_cut (w ∷ whole) (suc count) = (inl refl, torn_cut whole count)

pub cut_headers_are_not_begun : CutHeadersAreNotBegun
cut_headers_are_not_begun name h count small short =
    torn_headers_are_not_begun name h (take count (header_bytes name h)) small (torn_cut (header_bytes name h) count)
    (λ e. absurd (omega (
      arith,
      ap length e,
      length-take-le count (header_bytes name h) (omega (arith, short, length-header_bytes name h)),
      short,
      length-header_bytes name h,
    )))
