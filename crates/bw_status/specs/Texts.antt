-- Numbers, times and escaped texts.
use Rattle.std.specs.Prelude.{ℕ, ◌/◌, ◌%◌, ◌==◌, List, [], ◌∷◌, ◌++◌, codes, decimal, flat_map}
use Rattle.std.specs.Prelude.{if◌then◌else◌}

-- the two digits of a number below 100
abbrev pub digit_pair : ℕ → List ℕ
digit_pair n = decimal (n / 10) ++ decimal (n % 10)

-- milliseconds as hours, minutes and whole seconds: `1:02:03`
abbrev pub duration_text : ℕ → List ℕ
duration_text ms = decimal (ms / 3600000) ++ codes ":" ++ digit_pair (ms / 60000 % 60) ++ codes ":"
    ++ digit_pair (ms / 1000 % 60)

-- a byte as HTML: what begins a tag, a reference or the end of a value is a reference
abbrev pub escaped_byte : ℕ → List ℕ
escaped_byte c =
    if c == 38 then codes "&amp;"
    else if c == 60 then codes "&lt;"
    else if c == 62 then codes "&gt;"
    else if c == 34 then codes "&quot;"
    else if c == 39 then codes "&#39;"
    else c ∷ []

-- a text as HTML
abbrev pub html_escaped : List ℕ → List ℕ
html_escaped text = flat_map escaped_byte text
