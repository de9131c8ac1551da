-- Replies that put a frame off.
use Rattle.std.specs.Prelude.{◌==◌, ◌&&◌, Bool, false}
use Rattle.bw_model.specs.CountedTurn.{is_delay}
use Rattle.bw_model.specs.Replies.{Reply, Judged, Noticed, Refused}

-- the reply says that nothing is done of its name, and that nothing can be now
abbrev pub puts_off : Reply → Bool
puts_off (Judged name number verdict) = false
puts_off (Noticed name number notice next) = is_delay notice && (next == 0)
puts_off (Refused reason offset) = false
