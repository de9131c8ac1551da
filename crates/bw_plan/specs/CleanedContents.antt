-- What a message carries of a file's `bext` and `cue ` chunks, and what is made of the rest.
use Rattle.std.specs.Prelude.{ℕ, suc, is_none, Bool, true, false, not, ◌&&◌, List, [], ◌∷◌, ◌++◌, length}
use Rattle.std.specs.Prelude.{map}
use Rattle.std.specs.Prelude.{take, take_while, fold, codes, nat_lt, nat_le, ◌==◌, if◌then◌else◌}
use Rattle.std.specs.List.{list_all, list_any}
use Rattle.std.specs.Char.{is_ascii_digit}
use Rattle.std.specs.Str.{bytes_eq}
use Rattle.bw_model.specs.Limits.{longest_history, most_markers}
use Rattle.bw_model.specs.Take.{Shape, Text, Digits, Whole, Maybe, Level, not_given, is_printable}
use Rattle.bw_model.specs.Take.{is_history_byte, field_fault}
use Rattle.bw_model.specs.Report.{RawCue}
use Rattle.bw_plan.specs.CleanedTexts.{cleaned_text}

-- a text ends at its first zero byte
abbrev pub text_cleaned_of : List ℕ → List ℕ
text_cleaned_of bytes = take_while (λ c. not (c == 0)) bytes

-- a byte that isn't printable becomes a question mark
abbrev pub printable_byte : ℕ → ℕ
printable_byte c = if is_printable c then c else 63

-- .. that a coding history may not have: there ends of lines stay
abbrev pub history_byte : ℕ → ℕ
history_byte c = if is_history_byte c then c else 63

-- the coding history: its text, cut to the longest that a message carries (EBU Tech 3285,
-- CodingHistory)
abbrev pub history_of : List ℕ → List ℕ
history_of bytes = map history_byte (take longest_history (text_cleaned_of bytes))

-- what may come between the numbers of a date and of a time (EBU Tech 3285, OriginationDate and
-- OriginationTime)
abbrev pub is_separator : ℕ → Bool
is_separator c = list_any (λ s. s == c) (codes "-_: .")

-- the byte may be where the form has this byte: a digit for `d`, and else a separator
abbrev pub is_like_at : ℕ → ℕ → Bool
is_like_at f c = if f == 100 then is_ascii_digit c else is_separator c

-- the text has digits where the form has `d`, and separators elsewhere
abbrev pub is_like : List ℕ → List ℕ → Bool
is_like [] [] = true
is_like (f ∷ fs) (c ∷ cs) = is_like_at f c && is_like fs cs
is_like [] (c ∷ cs) = false
is_like (f ∷ fs) [] = false

-- the text's byte for a digit, and else the form's
abbrev pub placed : ℕ → ℕ → ℕ
placed f c = if f == 100 then c else f

-- the text's digits between the form's own separators
abbrev pub with_separators : List ℕ → List ℕ → List ℕ
with_separators [] cs = []
with_separators (f ∷ fs) [] = []
with_separators (f ∷ fs) (c ∷ cs) = placed f c ∷ with_separators fs cs

-- each byte is zero
abbrev pub are_zero : List ℕ → Bool
are_zero bytes = list_all (λ c. c == 0) bytes

-- The value that a message carries for a field's bytes: nothing where the field isn't given, and
-- where a date or a time has another form.
abbrev pub value_of : Shape → List ℕ → List ℕ
value_of (Text w) bytes = cleaned_text (text_cleaned_of bytes)
value_of (Digits form) bytes =
    if is_like form (text_cleaned_of bytes) then with_separators form (text_cleaned_of bytes) else []
value_of (Whole w) bytes = if are_zero bytes then [] else bytes
value_of (Maybe w) bytes = if are_zero bytes then [] else bytes
value_of Level bytes = if bytes_eq bytes not_given then [] else bytes

-- the values of these fields, by tag; nothing for those whose bytes the file doesn't have
abbrev pub values_of : List Shape → List (List ℕ) → List (List ℕ)
values_of [] fields = []
values_of (s ∷ ss) [] = [] ∷ values_of ss []
values_of (s ∷ ss) (bytes ∷ fields) = value_of s bytes ∷ values_of ss fields

-- each of these fields, from a tag on, may have its text as it is
abbrev pub are_texts_kept : ℕ → List (List ℕ) → Bool
are_texts_kept tag [] = true
are_texts_kept tag (bytes ∷ fields) =
    is_none (field_fault tag (text_cleaned_of bytes)) && are_texts_kept (suc tag) fields

-- .. and so may the coding history
abbrev pub is_history_kept : List ℕ → Bool
is_history_kept bytes =
    nat_le (length (text_cleaned_of bytes)) longest_history
    && list_all is_history_byte (text_cleaned_of bytes)

-- the cue point has a frame of the take, an identifier that none of these has, and a place
abbrev pub is_marker_kept : ℕ → List (ℕ × ℕ) → RawCue → Bool
is_marker_kept frames kept c =
    nat_le c.offset frames && not (list_any (λ m. m.0 == c.id) kept)
    && nat_lt (length kept) most_markers

-- the markers with this cue point after them, if it is kept
abbrev pub with_cue : ℕ → List (ℕ × ℕ) → RawCue → List (ℕ × ℕ)
with_cue frames kept c =
    if is_marker_kept frames kept c then kept ++ (c.id, c.offset) ∷ [] else kept

-- the markers of a take of so many frames, whose file has these cue points
abbrev pub markers_of : ℕ → List RawCue → List (ℕ × ℕ)
markers_of frames cues = fold (with_cue frames) [] cues
