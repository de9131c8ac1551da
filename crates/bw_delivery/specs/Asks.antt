-- What the reply to an ask says.
use Rattle.std.specs.Prelude.{ℕ, Option, Some, None, if◌then◌else◌}
use Rattle.bw_model.specs.Replies.{Reply, Judged, Noticed, Refused}
use Rattle.bw_model.specs.World.{is_next}

-- how many numbers are done, by the reply to an ask, unless that was put off
abbrev pub next_asked : Reply → Option ℕ
next_asked (Judged name n v) = None
next_asked (Noticed name n code next) = if is_next code then Some next else None
next_asked (Refused reason place) = None
