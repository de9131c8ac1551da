-- Contents as lines, each with its check.
use Rattle.std.specs.Prelude.{ℕ, ◌-◌, Option, Some, None, option_and_then, List, [], ◌∷◌, ◌++◌}
use Rattle.std.specs.Prelude.{length, take, drop, nat_lt, if◌then◌else◌}
use Rattle.std.specs.Str.{bytes_eq}
use Rattle.sha2.specs.Sha256.{sha256}
use Rattle.bw_journal.specs.Lines.{stuffed, plain}

-- the first bytes of a digest (SHA-256, FIPS 180-4)
unfoldable pub check : List ℕ → List ℕ
check bytes = take 8 (sha256 bytes)

-- the line of a content: it and its check
unfoldable pub sealed_line : List ℕ → List ℕ
sealed_line content = stuffed (content ++ check content)

-- the line with its end
abbrev pub sealed : List ℕ → List ℕ
sealed content = sealed_line content ++ 2 ∷ []

-- the bytes before the last eight, if these are their check
abbrev pub checked : List ℕ → Option (List ℕ)
checked bytes =
    if nat_lt (length bytes) 8 then None
    else if bytes_eq (drop (length bytes - 8) bytes) (check (take (length bytes - 8) bytes))
    then Some (take (length bytes - 8) bytes)
    else None

-- the content of a line, if it is stuffed bytes that end with their check
unfoldable pub opened : List ℕ → Option (List ℕ)
opened line = option_and_then checked (plain line)
