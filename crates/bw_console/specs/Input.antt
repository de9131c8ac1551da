-- What the bytes of standard input ask for.
use Rattle.std.specs.Prelude.{◌≡◌, ℕ, ◌+◌, ◌≤◌, Option, Some, List, length, drop, Result, Ok, Err, nat_lt}
use Rattle.std.specs.Prelude.{if◌then◌else◌}
use Rattle.bw_console.specs.Lines.{lines_of, decoded_from}

-- the most bytes that an input has
abbrev pub longest_input : ℕ
longest_input = 16777216

-- what an input asks for: a run of exchanges, or it has a fault
pub data Asked : Type 0 where
  TooLong : Asked
  -- the first line that is not hex, from 1 on
  NotHex : ℕ → Asked
  -- the bytes of each exchange
  Exchanges : List (List ℕ) → Asked

-- what lines ask for, given their bytes or the first that is not hex
abbrev pub asked_by_lines : Result (List (List ℕ)) ℕ → Asked
asked_by_lines (Ok inputs) = Exchanges inputs
asked_by_lines (Err n) = NotHex n

-- what an input asks for
abbrev pub asked_by : List ℕ → Asked
asked_by input = if nat_lt longest_input (length input) then TooLong
    else asked_by_lines (decoded_from 1 (lines_of input))

-- at most one byte more than the longest input was read
pub record IsReadAhead (input : List ℕ) (left : Option (List ℕ)) : Type 0 where
  pub reached : ℕ
  pub within : reached ≤ longest_input + 1
  pub inside : reached ≤ length input
  pub rest : left ≡ Some (drop reached input)
