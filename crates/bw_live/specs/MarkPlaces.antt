-- Which markers lines become.
use Rattle.std.specs.Prelude.{ℕ, ◌+◌, ◌==◌, List, fold, length, max, min, nat_le, nat_lt, Result, Ok, Err}
use Rattle.std.specs.Prelude.{if◌then◌else◌}
use Rattle.std.specs.List.{list_any}
use Rattle.bw_model.specs.Limits.{most_markers}
use Rattle.bw_live.specs.MarkNumbers.{last_in_mark}
use Rattle.bw_live.specs.declared.answer.MarkWish.{MarkWish}
use Rattle.bw_live.specs.declared.answer.MarkWish.TheVariants as wishes
use Rattle.bw_live.specs.declared.answer.MarkFault.{MarkFault}
use Rattle.bw_live.specs.declared.answer.MarkFault.TheVariants as faults

-- the greater of an identifier and a marker's
abbrev pub later_id : ℕ → (ℕ × ℕ) → ℕ
later_id greatest m = max greatest m.0

-- the greatest identifier of these markers, 0 where there is none
abbrev pub greatest_id : List (ℕ × ℕ) → ℕ
greatest_id markers = fold later_id 0 markers

-- the identifier of the next marker whose line gives none
abbrev pub next_id : List (ℕ × ℕ) → ℕ
next_id markers = min (greatest_id markers + 1) last_in_mark

-- identifier and frame of a marker after these, if it may be one
abbrev pub admitted_mark : List (ℕ × ℕ) → ℕ → ℕ → Result (ℕ × ℕ) MarkFault
admitted_mark markers frame id =
    if list_any (λ m. m.0 == id) markers then Err faults.Taken
    else if nat_le most_markers (length markers) then Err faults.TooMany
    else if nat_lt last_in_mark frame then Err faults.TooLate
    else Ok (id, frame)

-- the marker that a line asks for at a frame
abbrev pub placed_mark : List (ℕ × ℕ) → ℕ → MarkWish → Result (ℕ × ℕ) MarkFault
placed_mark markers frame wishes.Next = admitted_mark markers frame (next_id markers)
placed_mark markers frame (wishes.Labelled id) = admitted_mark markers frame id
placed_mark markers frame wishes.Unknown = Err faults.Unknown
