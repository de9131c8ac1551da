-- The name of a take, made of the path of its recording.
use Rattle.std.specs.Prelude.{◌+◌, ℕ, List, [], ◌∷◌, Option, None, Some, take, drop, length, nat_lt}
use Rattle.std.specs.Prelude.{if◌then◌else◌}
use Rattle.std.specs.List.{flat_map}
use Rattle.std.specs.Path.{rfind_below}
use Rattle.bw_model.specs.Bytes.{is_within}
use Rattle.bw_model.specs.Wire.{is_name_byte}

-- what follows this place of a text, or all of it
abbrev pub after_place : Option ℕ → List ℕ → List ℕ
after_place None text = text
after_place (Some place) text = drop (place + 1) text

-- what comes before this place of a text, or all of it if that is nothing
abbrev pub before_place : Option ℕ → List ℕ → List ℕ
before_place None text = text
before_place (Some place) text = if nat_lt 0 place then take place text else text

-- the name of the file at a path: what follows its last slash
abbrev pub file_part : List ℕ → List ℕ
file_part path = after_place (rfind_below 47 path (length path)) path

-- the same without its last dot and what follows that, unless it begins with this dot
abbrev pub stem_part : List ℕ → List ℕ
stem_part file = before_place (rfind_below 46 file (length file)) file

-- a capital letter becomes a small one, and what no name has a hyphen
abbrev pub byte_in_name : ℕ → ℕ
byte_in_name c = if is_within 65 90 c then c + 32 else if is_name_byte c then c else 45

-- what a byte of UTF-8 becomes, where those that go on with a character become nothing (RFC 3629, 3)
abbrev pub name_part : ℕ → List ℕ
name_part c = if is_within 128 191 c then [] else byte_in_name c ∷ []

-- the name that a path makes, as far as it is one
unfoldable pub name_made : List ℕ → List ℕ
name_made path = flat_map name_part (stem_part (file_part path))
