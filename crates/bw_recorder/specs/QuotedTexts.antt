-- Texts of files as they are printed.
use Rattle.std.specs.Prelude.{ℕ, ◌==◌, ◌&&◌, not, List, [], ◌∷◌, ◌++◌, flat_map, codes, if◌then◌else◌}
use Rattle.hex.specs.Hex.{encode_lower}
use Rattle.bw_model.specs.Take.{is_printable}

-- a byte of a text: as `\x` and two digits if it isn't printable, or is a quotation mark or a backslash
abbrev pub quoted_byte : ℕ → List ℕ
quoted_byte c =
    if is_printable c && (not (c == 34) && not (c == 92)) then c ∷ []
    else 92 ∷ 120 ∷ encode_lower (c ∷ [])

-- a text between quotation marks
abbrev pub quoted_text : List ℕ → List ℕ
quoted_text bytes = codes "\"" ++ flat_map quoted_byte bytes ++ codes "\""
