-- The names, white space and characters of XML (W3C, Extensible Markup Language 1.0, fifth edition;
-- its sections in brackets). Here any byte from 128 on may be in a name.
use Rattle.std.specs.Prelude.{ℕ, ◌+◌, ◌*◌, ◌==◌, ◌||◌, ◌&&◌, nat_lt, nat_le, Bool, List, [], ◌∷◌}
use Rattle.std.specs.Prelude.{codes, length, take, drop, slice_index}
use Rattle.std.specs.Prelude.{Option, Some, None, option_and_then, option_map, if◌then◌else◌}
use Rattle.std.specs.List.{prefix_len}
use Rattle.std.specs.Char.{digit_value, is_ascii_alphabetic, is_ascii_digit}
use Rattle.std.specs.Str.{bytes_eq}

infixl 10 ◌>>=◌
abbrev pub ◌>>=◌ : {A B : Type 0} → Option A → (A → Option B) → Option B
o >>= f = option_and_then f o

-- white space [2.3]
abbrev pub is_white_space : ℕ → Bool
is_white_space c = (c == 32) || ((c == 9) || ((c == 10) || (c == 13)))

-- a byte that a name begins with [2.3]
abbrev pub begins_name : ℕ → Bool
begins_name c = is_ascii_alphabetic c || ((c == 95) || ((c == 58) || nat_lt 127 c))

-- a byte in a name [2.3]
abbrev pub is_in_name : ℕ → Bool
is_in_name c = begins_name c || (is_ascii_digit c || ((c == 45) || (c == 46)))

-- what follows a word in bytes that begin with it
abbrev pub after_word : List ℕ → List ℕ → Option (List ℕ)
after_word word c = if bytes_eq (take (length word) c) word then Some (drop (length word) c) else None

-- what is before the first of these marks, and after it
abbrev pub cut_at_mark : List ℕ → List ℕ → Option (List ℕ × List ℕ)
cut_at_mark mark [] = None
cut_at_mark mark (c ∷ cs) =
    if bytes_eq (take (length mark) (c ∷ cs)) mark then Some ([], drop (length mark) (c ∷ cs))
    else option_map (λ p. (c ∷ p.0, p.1)) (cut_at_mark mark cs)

-- what follows the white space at the front
abbrev pub after_white_space : List ℕ → List ℕ
after_white_space c = drop (prefix_len is_white_space c) c

-- the name at the front, and what follows it [2.3, Name]
unfoldable pub name_at : List ℕ → Option (List ℕ × List ℕ)
name_at c =
    if begins_name (slice_index c 0)
    then Some (take (prefix_len is_in_name c) c, drop (prefix_len is_in_name c) c) else None

-- the number that n and then these digits write, if it is at most `most`
abbrev pub number_after : ℕ → ℕ → ℕ → List ℕ → Option ℕ
number_after base most n [] = Some n
number_after base most n (c ∷ cs) =
    if nat_lt (digit_value c) base && nat_le (base * n + digit_value c) most
    then number_after base most (base * n + digit_value c) cs else None

-- the number that digits of this base write, if it is at most `most`
abbrev pub number_of_digits : ℕ → ℕ → List ℕ → Option ℕ
number_of_digits base most c = if nat_lt 0 (length c) then number_after base most 0 c else None

-- whether these bytes begin with a word
abbrev pub begins_with : List ℕ → List ℕ → Bool
begins_with c word = bytes_eq (take (length word) c) word

-- a character that a document may have [2.2, Char]
abbrev pub is_xml_char : ℕ → Bool
is_xml_char n =
    ((n == 9) || ((n == 10) || (n == 13)))
    || ((nat_le 32 n && nat_lt n 0xD800)
    || ((nat_lt 0xDFFF n && nat_lt n 0xFFFE) || (nat_lt 0xFFFF n && nat_lt n 0x110000)))

-- the character of a number, if a document may have it
abbrev pub xml_char : ℕ → Option ℕ
xml_char n = if is_xml_char n then Some n else None

-- the character whose number these digits write
unfoldable pub char_written : ℕ → List ℕ → Option ℕ
char_written base digits = number_of_digits base 0x10FFFF digits >>= xml_char

-- the character that a reference names, between `&` and `;` [4.1, CharRef; 4.6]
unfoldable pub char_named : List ℕ → Option ℕ
char_named name =
    if bytes_eq name (codes "lt") then Some 60
    else if bytes_eq name (codes "gt") then Some 62
    else if bytes_eq name (codes "amp") then Some 38
    else if bytes_eq name (codes "quot") then Some 34
    else if bytes_eq name (codes "apos") then Some 39
    else if begins_with name (codes "#x") then char_written 16 (drop 2 name)
    else if begins_with name (codes "#") then char_written 10 (drop 1 name)
    else None
