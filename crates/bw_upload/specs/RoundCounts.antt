-- How far a sender is after a round, as its line reports it.
use Rattle.std.specs.Prelude.{ℕ, ◌-◌, ◌^◌, min, List, ◌++◌, take, sum_by, codes, decimal}
use Rattle.bw_model.specs.Take.{Request}
use Rattle.bw_model.specs.World.{Sender, settled, stored}
use Rattle.bw_model.specs.Requests.{samples_in}
use Rattle.bw_console.specs.Text.{as_line}

-- the bytes of samples in these requests
abbrev pub counted_bytes : List Request → ℕ
counted_bytes requests = min (sum_by samples_in requests) (2 ^ 64 - 1)

-- in those of an input that are settled: they are its first
abbrev pub settled_bytes : Sender → List Request → ℕ
settled_bytes s requests = counted_bytes (take (settled s) requests)

-- the line of these counts
abbrev pub round_counts_line : ℕ → ℕ → ℕ → ℕ → List ℕ
round_counts_line round settled stored bytes = as_line
    (codes "round " ++ decimal round ++ codes " settled " ++ decimal settled ++ codes " stored "
    ++ decimal stored ++ codes " bytes " ++ decimal bytes)

-- the line after the round with this number, of a sender and the requests of its input
abbrev pub progress_line : ℕ → Sender → List Request → List ℕ
progress_line round s requests =
    round_counts_line round (settled s) (stored s) (settled_bytes s requests)
