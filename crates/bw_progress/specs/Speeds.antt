-- How fast bytes are done.
use Rattle.std.specs.Prelude.{ℕ, ◌-◌, ◌*◌, ◌/◌, ◌^◌, ◌==◌, min, nat_lt, if◌then◌else◌}
use Rattle.bw_progress.specs.declared.speed.Mark.{Mark}
use Rattle.bw_progress.specs.declared.speed.Speed.{Speed}

-- The speed after a mark: where the last one is two seconds old, bytes count since that one.
abbrev pub speed_noted : Mark → Speed → Speed
speed_noted mark s =
    if nat_lt (mark.time - s.next.time) 2000 then s else record { since = s.next; next = mark }

-- how many bytes a second were done between two marks, rounded down
abbrev pub bytes_a_second : Mark → Mark → ℕ
bytes_a_second since now =
    let passed = now.time - since.time in
    if passed == 0 then 0 else min ((now.bytes - since.bytes) * 1000) (2 ^ 64 - 1) / passed
