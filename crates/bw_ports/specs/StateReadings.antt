-- What a state file says.
use Rattle.std.specs.Prelude.{ℕ, Option, Some, None, List, [], ◌∷◌, ◌++◌, ◌==◌, max, unwrap_or}
use Rattle.std.specs.Prelude.{if◌then◌else◌}
use Rattle.std.specs.Str.{bytes_eq}
use Rattle.bw_ports.specs.Counts.{count_in}

-- the lines that are ended, without the byte that ends them; this was read of the first
abbrev pub lines_after : List ℕ → List ℕ → List (List ℕ)
lines_after line [] = []
lines_after line (b ∷ bs) = if b == 10 then line ∷ lines_after [] bs
    else lines_after (line ++ b ∷ []) bs

-- the greatest count of these lines; 0 if none of them has one
abbrev pub greatest_count : List (List ℕ) → ℕ
greatest_count [] = 0
greatest_count (line ∷ lines) = max (unwrap_or (count_in line) 0) (greatest_count lines)

-- what lines say after this header
abbrev pub said_after : List ℕ → List (List ℕ) → Option ℕ
said_after header [] = None
said_after header (first ∷ lines) =
    if bytes_eq first header then Some (greatest_count lines) else None

-- how many requests are settled by a state's bytes, if its header is this one
abbrev pub settled_in : List ℕ → List ℕ → Option ℕ
settled_in header bytes = said_after header (lines_after [] bytes)
