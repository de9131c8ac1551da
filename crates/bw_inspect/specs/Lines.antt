-- Lines of the report by their parts.
use Rattle.std.specs.Prelude.{ℕ, List, [], ◌∷◌, ◌++◌, codes, decimal, flat_map, take_while, not}
use Rattle.std.specs.Prelude.{◌==◌, Option, option_map, unwrap_or}
use Rattle.bw_model.specs.Report.{RawBext, words, number_field, field, hex_byte, text_byte}
use Rattle.bw_model.specs.Report.{frames_of, text_lines, loudness_line, bext_lines}
use Rattle.bw_inspect.specs.declared.report.BextChunk.{BextChunk}

-- the line of the form
abbrev pub form_line : List ℕ → ℕ → List ℕ
form_line id size = words (codes "form" ∷ id ∷ decimal size ∷ [])

-- the line of the data, of frames of this many bytes
abbrev pub data_line : ℕ → ℕ → ℕ → List ℕ
data_line place size align = words
    (codes "data" ∷ number_field "at" place ∷ number_field "bytes" size
    ∷ number_field "frames" (frames_of size align) ∷ [])

-- the line of the numbers in a `bext` chunk
abbrev pub bext_line : ℕ → ℕ → ℕ → List ℕ
bext_line version time history = words
    (codes "bext" ∷ number_field "version" version ∷ number_field "time" time
    ∷ number_field "history" history ∷ [])

-- the line of a text, by its name's bytes
abbrev pub text_line_of : List ℕ → List ℕ → List ℕ
text_line_of name bytes =
    (name ++ 61 ∷ flat_map text_byte (take_while (λ c. not (c == 0)) bytes)) ++ 10 ∷ []

-- the line of a UMID
abbrev pub umid_line : List ℕ → List ℕ
umid_line umid = words (field "umid" (flat_map hex_byte umid) ∷ [])

-- the lines of the five texts
abbrev pub lines_of_texts : RawBext × List ℕ → List ℕ
lines_of_texts fields =
    text_lines ("description" ∷ "originator" ∷ "reference" ∷ "date" ∷ "clock" ∷ []) fields.0.texts

-- the line of the loudness, if there is one
abbrev pub lines_of_loudness : Option (List ℕ) → List ℕ
lines_of_loudness levels = loudness_line (unwrap_or levels [])

-- the lines of a `bext` chunk, if there is one
abbrev pub lines_of_bext : Option BextChunk → List ℕ
lines_of_bext bext = bext_lines (option_map (λ (x : BextChunk). (x.fields.0, x.history_len)) bext)
