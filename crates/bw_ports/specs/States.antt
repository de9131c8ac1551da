-- What a state file has: a header, and how many requests are settled, line by line.
use Rattle.std.specs.Prelude.{ℕ, List, ◌++◌, flat_map}
use Rattle.bw_console.specs.Text.{as_line}
use Rattle.bw_ports.specs.Counts.{settled_text}

-- the lines of these counts
abbrev pub count_lines : List ℕ → List ℕ
count_lines counts = flat_map (λ n. as_line (settled_text n)) counts

-- the state after these counts were noted
abbrev pub state_bytes : List ℕ → List ℕ → List ℕ
state_bytes header counts = as_line header ++ count_lines counts
