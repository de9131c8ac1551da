-- Settings as texts.
use Rattle.std.specs.Prelude.{ℕ, ◌+◌, ◌-◌, ◌*◌, ◌^◌, ◌%◌, Bool, true, false, not, ◌&&◌, ◌==◌, Option, Some}
use Rattle.std.specs.Prelude.{None}
use Rattle.std.specs.Prelude.{option_map, option_and_then, Result, Ok, Err, List, [], ◌∷◌, length, take}
use Rattle.std.specs.Prelude.{drop}
use Rattle.std.specs.Prelude.{fold, codes, nat_le, nat_lt, slice_index_or, if◌then◌else◌}
use Rattle.std.specs.List.{prefix_len}
use Rattle.std.specs.Char.{is_ascii_digit}
use Rattle.std.specs.Str.{bytes_eq}
use Rattle.hex.specs.Hex.{decode_of}
use Rattle.hex.specs.declared.error.FromHexError.{FromHexError}
use Rattle.bw_model.specs.Bytes.{le16, le64, first_that_holds}
use Rattle.bw_plan.specs.Recordings.{Setting, Field, History}
use Rattle.bw_plan.specs.AllowedSettings.{is_setting}

-- the number with one more digit; none where that is no digit, or the number has more than 64 bits
abbrev pub with_digit : Option ℕ → ℕ → Option ℕ
with_digit None c = None
with_digit (Some n) c =
    if is_ascii_digit c && nat_lt (10 * n + (c - 48)) (2 ^ 64) then Some (10 * n + (c - 48)) else None

-- the number that these digits spell
abbrev pub number_of : List ℕ → Option ℕ
number_of digits = fold with_digit (Some 0) digits

-- a signed number in the two bytes of a level, but for 7FFFh, which means not given
abbrev pub signed16 : Bool → ℕ → Option ℕ
signed16 negative n =
    if negative then (if nat_le n 32768 then Some ((65536 - n) % 65536) else None)
    else (if nat_le n 32766 then Some n else None)

-- .. of so many whole units and hundredths
abbrev pub level_by : Bool → Option ℕ → Option ℕ → Option ℕ
level_by negative (Some w) (Some h) = signed16 negative (100 * w + h)
level_by negative (Some w) None = None
level_by negative None h = None

-- a level in hundredths: digits, a point and two digits
abbrev pub unsigned_level : Bool → List ℕ → Option ℕ
unsigned_level negative text =
    let n = length text in
    if nat_le 4 n && (slice_index_or text (n - 3) 0 == 46)
    then level_by negative (number_of (take (n - 3) text)) (number_of (drop (n - 2) text))
    else None

-- .. after a minus sign, where there is one
abbrev pub level_of : List ℕ → Option ℕ
level_of [] = None
level_of (c ∷ cs) = if c == 45 then unsigned_level true cs else unsigned_level false (c ∷ cs)

-- the bytes that hex digits spell
abbrev pub decoded_value : Result (List ℕ) FromHexError → Option (List ℕ)
decoded_value (Ok bytes) = Some bytes
decoded_value (Err e) = None

-- The value that a text spells for the field with this tag: nothing for an empty one; a number for
-- TimeReference, hex digits for UMID, a level with two decimals for the loudness values, and else
-- the text itself.
abbrev pub spelled_value : ℕ → List ℕ → Option (List ℕ)
spelled_value tag text =
    if length text == 0 then Some []
    else if tag == 6 then option_map le64 (number_of text)
    else if tag == 7 then decoded_value (decode_of text)
    else if nat_le 8 tag then option_map le16 (level_of text)
    else Some text

-- the tag of the field that a key names, as the report names it
abbrev pub tag_of : List ℕ → Option ℕ
tag_of key = first_that_holds (
    (bytes_eq key (codes "description"), 1)
    ∷ (bytes_eq key (codes "originator"), 2)
    ∷ (bytes_eq key (codes "reference"), 3)
    ∷ (bytes_eq key (codes "date"), 4)
    ∷ (bytes_eq key (codes "clock"), 5)
    ∷ (bytes_eq key (codes "time"), 6)
    ∷ (bytes_eq key (codes "umid"), 7)
    ∷ (bytes_eq key (codes "value"), 8)
    ∷ (bytes_eq key (codes "range"), 9)
    ∷ (bytes_eq key (codes "peak"), 10)
    ∷ (bytes_eq key (codes "momentary"), 11)
    ∷ (bytes_eq key (codes "short"), 12)
    ∷ [])

-- the setting, if it is allowed
abbrev pub allowed : Setting → Option Setting
allowed s = if is_setting s then Some s else None

-- the setting that a key and a value spell
abbrev pub spelled_field : Option ℕ → List ℕ → Option Setting
spelled_field None text = None
spelled_field (Some tag) text = option_and_then (λ v. allowed (Field tag v)) (spelled_value tag text)

abbrev pub spelled_setting : List ℕ → List ℕ → Option Setting
spelled_setting key text =
    if bytes_eq key (codes "history") then allowed (History text) else spelled_field (tag_of key) text

-- the setting that `KEY=VALUE` spells; none where there is no such setting
abbrev pub setting_of : List ℕ → Option Setting
setting_of text =
    let n = prefix_len (λ c. not (c == 61)) text in
    if n == length text then None else spelled_setting (take n text) (drop (n + 1) text)
