-- How often the line of an upload is shown.
use Rattle.std.specs.Prelude.{ℕ, ◌-◌, nat_le, Bool, true, Option, Some, None}
use Rattle.bw_progress.specs.declared.pace.LinePace.{LinePace}
use Rattle.bw_progress.specs.declared.pace.LinePace.TheVariants.{Renewed, EachMinute}

-- the fewest milliseconds from one line to the next: a fifth of a second, or a minute
abbrev pub least_between : LinePace → ℕ
least_between Renewed = 200
least_between EachMinute = 60000

-- whether a line is due at this millisecond, if the last one was shown then
abbrev pub is_due_after : LinePace → Option ℕ → ℕ → Bool
is_due_after pace None now = true
is_due_after pace (Some since) now = nat_le (least_between pace) (now - since)

-- since when the next line is waited for once an upload begins at this millisecond: the first of a
-- minute's from the first beginning on
abbrev pub awaited_from : LinePace → ℕ → Option ℕ → Option ℕ
awaited_from Renewed now since = since
awaited_from EachMinute now None = Some now
awaited_from EachMinute now (Some since) = Some since
