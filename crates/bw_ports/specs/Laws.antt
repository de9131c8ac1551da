-- What was noted is read back.
use Rattle.std.specs.Prelude.{◌≡◌, ◌≢◌, ◌≤◌, ℕ, ◌+◌, ◌-◌, Option, Some, None, List, [], ◌∷◌}
use Rattle.std.specs.Prelude.{length, max, take}
use Rattle.std.specs.Prelude.{nat_le, if◌then◌else◌}
use Rattle.bw_console.specs.Text.{as_line}
use Rattle.bw_ports.specs.Counts.{most_settled, settled_text}
use Rattle.bw_ports.specs.Headers.{IsOrigin, Origin, state_header}
use Rattle.bw_ports.specs.States.{state_bytes}
use Rattle.bw_ports.specs.StateReadings.{settled_in}
use Rattle.std.specs.List.{AllByRecursion}

-- the greatest of these; 0 if there are none
abbrev pub greatest : List ℕ → ℕ
greatest [] = 0
greatest (n ∷ ns) = max n (greatest ns)

-- the counts whose lines are whole in so many bytes
abbrev pub whole_counts : ℕ → List ℕ → List ℕ
whole_counts k [] = []
whole_counts k (n ∷ ns) =
    if nat_le (length (as_line (settled_text n))) k
    then n ∷ whole_counts (k - length (as_line (settled_text n))) ns else []

-- what a cut state says: nothing if its header's line is cut, and else the greatest of the counts
-- whose lines are whole
abbrev pub said_of_cut : ℕ → List ℕ → List ℕ → Option ℕ
said_of_cut k header counts =
    if nat_le (length header + 1) k
    then Some (greatest (whole_counts (k - (length header + 1)) counts)) else None

-- no byte of a header ends its line
abbrev pub IsHeaderText : List ℕ → Type 0
IsHeaderText header = AllByRecursion (λ b. b ≢ 10) header

-- wherever a state is cut, it is read so
abbrev pub CutStatesAreRead : Type 0
CutStatesAreRead = (header counts : List ℕ) (k : ℕ) → IsHeaderText header →
    AllByRecursion (λ n. n ≤ most_settled) counts →
    settled_in header (take k (state_bytes header counts)) ≡ said_of_cut k header counts

-- the whole state gives the greatest count
abbrev pub StatesAreRead : Type 0
StatesAreRead = (header counts : List ℕ) → IsHeaderText header →
    AllByRecursion (λ n. n ≤ most_settled) counts →
    settled_in header (state_bytes header counts) ≡ Some (greatest counts)

-- the state of another header says nothing, wherever it is cut
abbrev pub OtherStatesSayNothing : Type 0
OtherStatesSayNothing = (header other counts : List ℕ) (k : ℕ) → IsHeaderText other →
    other ≢ header →
    settled_in header (take k (state_bytes other counts)) ≡ None

-- the header of an origin is one line
abbrev pub HeadersAreLines : Type 0
HeadersAreLines = (o : Origin) → IsOrigin o → IsHeaderText (state_header o)

-- no other origin has it
abbrev pub HeadersAreApart : Type 0
HeadersAreApart = (a b : Origin) → IsOrigin a → IsOrigin b →
    state_header a ≡ state_header b → a ≡ b
