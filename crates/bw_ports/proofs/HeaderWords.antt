-- A header is read word by word.
use Rattle.std.proofs.Common.{◌≡◌, ◌≢◌, ◌<◌, ◌^◌, ◌+◌, ◌/◌, ◌%◌, ◌∙◌, ℕ, zero, suc, List, [], ◌∷◌, ◌++◌}
use Rattle.std.proofs.Common.{Result, Ok, ap, sym, refl, arith, rules}
use Rattle.std.specs.Prelude.{codes, decimal, slice_index}
use Rattle.std.specs.Str.Parse.{digits_value}
use Rattle.std.proofs.lemmas.Fmt.{decimal_by_steps, decimal_is_IsNumeral}
use Rattle.hex.specs.Hex.{IsBytes, decode_of, encode_lower, encode_with, lower_digits}
use Rattle.hex.specs.declared.error.FromHexError.{FromHexError}
use Rattle.hex.proofs.HexLemmas.{decode_of-encode_lower}
use Rattle.bw_ports.specs.Headers.{IsWord, Origin, word_before}
use Rattle.bw_ports.specs.Laws.{HeadersAreApart, HeadersAreLines}
use Rattle.bw_ports.proofs.TextLines.{IsText, text_appended}

-- two words before spaces
words_split : (v w x y : List ℕ) → IsWord v → IsWord w → word_before v x ≡ word_before w y → (v ≡ w) × (x ≡ y)
words_split [] [] x y h k e = (refl, cc)
words_split [] (c ∷ cs) x y h k e = let same : 32 ≡ c = cc in absurd (omega (arith, k.0))
words_split (b ∷ bs) [] x y h k e = let same : b ≡ 32 = cc in absurd (omega (arith, h.0))
words_split (b ∷ bs) (c ∷ cs) x y h k e =
    let first : b ≡ c = cc in
    let rest : word_before bs x ≡ word_before cs y = cc in
    let more = words_split bs cs x y h.1 k.1 rest in (
      ap (λ (n : ℕ). n ∷ bs) first ∙ ap (λ (l : List ℕ). c ∷ l) more.0,
      more.1,
    )

word_appended : (xs ys : List ℕ) → IsWord xs → IsWord ys → IsWord (xs ++ ys)
word_appended [] ys h k = k
word_appended (x ∷ xs) ys h k = (h.0, word_appended xs ys h.1 k)

decimal_is_word : (n : ℕ) → n < 2 ^ 64 → IsWord (decimal n)
decimal_is_word n small =
    decimal_by_steps (λ m ds. IsWord ds) (λ m h. (omega arith, tt))
    (λ m ds ten h. word_appended ds ((48 + m % 10) ∷ []) h (omega arith, tt)) n small

decimals_apart : (m n : ℕ) → m < 2 ^ 64 → n < 2 ^ 64 → decimal m ≡ decimal n → m ≡ n
decimals_apart m n h k e =
    sym (decimal_is_IsNumeral m h).1 ∙ ap (digits_value 10) e ∙ (decimal_is_IsNumeral n k).1

ok_is : (a b : List ℕ) → ◌≡◌ {A = Result (List ℕ) FromHexError} (Ok a) (Ok b) → a ≡ b
ok_is a b e = cc

digests_apart : (a b : List ℕ) → IsBytes a → IsBytes b → encode_lower a ≡ encode_lower b → a ≡ b
digests_apart a b h k e =
    ok_is a b (sym (decode_of-encode_lower a h) ∙ ap decode_of e ∙ decode_of-encode_lower b k)

word_is_text : (word : List ℕ) → IsWord word → IsText word
word_is_text [] h = tt
word_is_text (b ∷ bs) h = (omega (arith, h.0), word_is_text bs h.1)

digit_is_text : (table : List ℕ) (i : ℕ) → IsText table → slice_index table i ≢ 10
digit_is_text [] i h = omega arith
digit_is_text (x ∷ xs) zero h = h.0
digit_is_text (x ∷ xs) (suc i) h = digit_is_text xs i h.1

hex_is_text : (table bytes : List ℕ) → IsText table → IsText (encode_with table bytes)
unfolding encode_with
hex_is_text table [] h = tt
hex_is_text table (b ∷ bs) h =
    (digit_is_text table (b / 16) h, (digit_is_text table (b % 16) h, hex_is_text table bs h))

before_is_text : (word rest : List ℕ) → IsWord word → IsText rest → IsText (word_before word rest)
before_is_text word rest h k = text_appended word (32 ∷ rest) (word_is_text word h) (omega arith, k)

first_word : IsWord (codes "bwingest-state-1")
first_word = search rules

table_is_text : IsText lower_digits
table_is_text = search rules

pub headers_lines : HeadersAreLines
headers_lines o is =
    before_is_text (codes "bwingest-state-1") _ first_word
    (before_is_text o.name _ is.named
    (before_is_text o.address _ is.addressed
    (before_is_text (decimal o.len) _ (decimal_is_word o.len is.long)
    (before_is_text (decimal o.changed) _ (decimal_is_word o.changed is.late)
    (before_is_text (decimal o.block) _ (decimal_is_word o.block is.blocked)
    (hex_is_text lower_digits o.opening table_is_text))))))

abbrev made : List ℕ → List ℕ → ℕ → ℕ → ℕ → List ℕ → Origin
made name address len changed block opening = record {
  name = name;
  address = address;
  len = len;
  changed = changed;
  block = block;
  opening = opening;
}

same_origin : (a b : Origin) → a.name ≡ b.name → a.address ≡ b.address → a.len ≡ b.len → a.changed ≡ b.changed →
    a.block ≡ b.block → a.opening ≡ b.opening → a ≡ b
same_origin a b n d l c k o =
    ap (λ (x : List ℕ). made x a.address a.len a.changed a.block a.opening) n
    ∙ ap (λ (x : List ℕ). made b.name x a.len a.changed a.block a.opening) d
    ∙ ap (λ (x : ℕ). made b.name b.address x a.changed a.block a.opening) l
    ∙ ap (λ (x : ℕ). made b.name b.address b.len x a.block a.opening) c
    ∙ ap (λ (x : ℕ). made b.name b.address b.len b.changed x a.opening) k
    ∙ ap (λ (x : List ℕ). made b.name b.address b.len b.changed b.block x) o

pub headers_apart : HeadersAreApart
headers_apart a b is js e =
    let s = words_split (codes "bwingest-state-1") (codes "bwingest-state-1") _ _ first_word first_word e in
    let name = words_split a.name b.name _ _ is.named js.named s.1 in
    let address = words_split a.address b.address _ _ is.addressed js.addressed name.1 in
    let len = words_split (decimal a.len) (decimal b.len) _ _ (decimal_is_word a.len is.long) (decimal_is_word b.len js.long) address.1 in
    let changed = words_split (decimal a.changed) (decimal b.changed) _ _ (decimal_is_word a.changed is.late)
    (decimal_is_word b.changed js.late) len.1 in
    let block = words_split (decimal a.block) (decimal b.block) _ _ (decimal_is_word a.block is.blocked)
    (decimal_is_word b.block js.blocked) changed.1 in
    same_origin a b name.0 address.0 (decimals_apart a.len b.len is.long js.long len.0)
    (decimals_apart a.changed b.changed is.late js.late changed.0)
    (decimals_apart a.block b.block is.blocked js.blocked block.0)
    (digests_apart a.opening b.opening is.digested js.digested block.1)
