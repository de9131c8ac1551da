-- What a message carries of a text of a file: one line of ASCII.
use Rattle.std.specs.Prelude.{ℕ, Bool, ◌&&◌, ◌||◌, ◌==◌, List, [], ◌∷◌, chars, slice_index_or, if◌then◌else◌}
use Rattle.std.specs.Char.{is_ascii_alphabetic}
use Rattle.std.specs.Str.{is_utf8}
use Rattle.unicode_normalization.specs.Decompose.{decompose_canonical}
use Rattle.bw_model.specs.Bytes.{is_within}
use Rattle.bw_model.specs.Take.{is_printable}

-- the characters of a text: those of UTF-8 if it is that, and else of ISO 8859-1, one a byte
abbrev pub characters_of : List ℕ → List ℕ
characters_of text = if is_utf8 text then chars text else text

-- a letter without its accents: the first character of its canonical decomposition (The Unicode
-- Standard, D68)
unfoldable pub base_letter : ℕ → ℕ
base_letter c = slice_index_or (decompose_canonical c) 0 c

-- a carriage return or a line feed
abbrev pub is_end_of_line : ℕ → Bool
is_end_of_line c = (c == 13) || (c == 10)

-- a letter of ASCII has its own byte, and any other character that of a question mark
abbrev pub letter_byte : ℕ → ℕ
letter_byte c = if is_ascii_alphabetic c then c else 63

-- the byte of a character: a space for the end of a line, and a letter for it with accents
abbrev pub byte_of : ℕ → ℕ
byte_of c =
    if is_end_of_line c then 32 else if is_printable c then c else letter_byte (base_letter c)

-- the character has no byte after this one: an accent of its own (Combining Diacritical Marks), or a
-- line feed after a carriage return
abbrev pub is_without_byte : ℕ → ℕ → Bool
is_without_byte previous c = is_within 0x300 0x36F c || ((previous == 13) && (c == 10))

-- the bytes of these characters, after this one
abbrev pub cleaned_after : ℕ → List ℕ → List ℕ
cleaned_after previous [] = []
cleaned_after previous (c ∷ cs) =
    if is_without_byte previous c then cleaned_after c cs else byte_of c ∷ cleaned_after c cs

-- the bytes of a text
abbrev pub cleaned_text : List ℕ → List ℕ
cleaned_text text = cleaned_after 0 (characters_of text)
