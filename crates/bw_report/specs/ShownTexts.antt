-- Names and texts of files as they are printed.
use Rattle.std.specs.Prelude.{ℕ, ◌==◌, ◌||◌, ◌&&◌, not, nat_lt, Bool, List, [], ◌∷◌, ◌++◌, flat_map}
use Rattle.std.specs.Prelude.{codes, if◌then◌else◌}
use Rattle.std.specs.Str.{is_utf8}
use Rattle.hex.specs.Hex.{encode_lower}
use Rattle.bw_console.specs.Text.{as_line}

-- a byte as `\x` and two digits
abbrev pub escaped : ℕ → List ℕ
escaped c = 92 ∷ 120 ∷ encode_lower (c ∷ [])

-- a byte of a name: a control character or a backslash is escaped
abbrev pub name_byte : ℕ → List ℕ
name_byte c = if nat_lt c 32 || ((c == 127) || (c == 92)) then escaped c else c ∷ []

-- the line of a name
abbrev pub name_line : List ℕ → List ℕ
name_line name = as_line (codes "file " ++ flat_map name_byte name)

-- a byte of a text that is UTF-8, or isn't
abbrev pub shown_byte : Bool → ℕ → List ℕ
shown_byte is_text c = if not is_text && nat_lt 127 c then escaped c else name_byte c

-- a text as a name is shown; of one that isn't UTF-8, bytes from 128 on are escaped too
abbrev pub shown_text : List ℕ → List ℕ
shown_text bytes = flat_map (shown_byte (is_utf8 bytes)) bytes
