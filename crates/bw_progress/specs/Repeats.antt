-- Which outages are reported.
use Rattle.std.specs.Prelude.{ℕ, Bool, true, not, ◌||◌, ◌==◌, Option, Some, None}
use Rattle.bw_progress.specs.Outages.{outage_number}
use Rattle.bw_progress.specs.declared.outage.Outage.{Outage}
use Rattle.bw_progress.specs.declared.repeats.LastOutage.{LastOutage}

-- an outage differs from one, or requests were settled since
abbrev pub is_unlike : Outage → ℕ → Option Outage → ℕ → Bool
is_unlike outage settled None before = true
is_unlike outage settled (Some last) before =
    not (outage_number last == outage_number outage) || not (before == settled)

-- it is a change after the last one
abbrev pub is_change : Outage → ℕ → LastOutage → Bool
is_change outage settled last = is_unlike outage settled last.outage last.settled
