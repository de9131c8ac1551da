-- Texts, numbers and levels as JSON values.
use Rattle.std.specs.Prelude.{ℕ, pos, ◌-ℤ◌, ◌==◌, nat_lt, List, Option, Some, None, if◌then◌else◌}
use Rattle.std.specs.Str.{is_utf8}
use Rattle.serde_json.specs.Data.{Data, Members, null, number, string, unsigned, negative, put}
use Rattle.hex.specs.Hex.{encode_lower}

-- a number
abbrev pub number_data : ℕ → Data
number_data n = number (unsigned n)

-- a number, or null
abbrev pub number_or_null : Option ℕ → Data
number_or_null None = null
number_or_null (Some n) = number_data n

-- a text: a string if its bytes are UTF-8, else null
abbrev pub text_data : List ℕ → Data
text_data bytes = if is_utf8 bytes then string bytes else null

-- bytes as hex digits
abbrev pub hex_data : List ℕ → Data
hex_data bytes = string (encode_lower bytes)

-- bytes as hex digits, or null
abbrev pub hex_or_null : Option (List ℕ) → Data
hex_or_null None = null
hex_or_null (Some bytes) = hex_data bytes

-- a level of `bext`: a signed 16-bit number by its bits; 7FFFh means not given (EBU Tech 3285)
abbrev pub level_data : ℕ → Data
level_data n =
    if n == 0x7FFF then null
    else if nat_lt n 0x8000 then number_data n
    else number (negative (pos n -ℤ pos 0x10000))

-- members with a text at one key, and its bytes as hex digits at another
abbrev pub with_text : List ℕ → List ℕ → List ℕ → Members → Members
with_text key hex_key bytes members =
    put hex_key (hex_data bytes) (put key (text_data bytes) members)
