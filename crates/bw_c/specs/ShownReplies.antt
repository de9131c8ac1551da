-- What a caller in C is shown of a reply.
use Rattle.std.specs.Prelude.{◌-◌, ℕ, Bool, true, false, Result, Ok, Err, List, length, if◌then◌else◌}
use Rattle.bw_model.specs.Wire.{Reason, Cut, reason_code}
use Rattle.bw_model.specs.Replies.{Reply, Judged, Noticed, Refused, verdict_code, notice_code}
use Rattle.bw_model.specs.World.{Sender as Defined, Heard, Counted, Known, Noted, Stranger, hear, heard}
use Rattle.bw_c.specs.declared.hearing.BwiReply.{BwiReply}

-- the bytes aren't a whole frame yet
abbrev pub is_cut : Reason → Bool
is_cut Cut = true
is_cut _ = false

-- a kind and a code
abbrev pub without_numbers : ℕ → ℕ → BwiReply
without_numbers kind code =
    record { kind = kind; heard = 0; number = 0; code = code; next = 0; offset = 0 }

-- a reply, and what it was to the sender
abbrev pub shown_reply : ℕ → Reply → BwiReply
shown_reply heard (Judged name n v) =
    record { kind = 1; heard = heard; number = n; code = verdict_code v; next = 0; offset = 0 }
shown_reply heard (Noticed name n code next) =
    record { kind = 2; heard = heard; number = n; code = notice_code code; next = next; offset = 0 }
shown_reply heard (Refused reason place) =
    record { kind = 3; heard = heard; number = 0; code = reason_code reason; next = 0; offset = place }

-- the first reply of bytes
abbrev pub shown : ℕ → Result (Reply × List ℕ) Reason → BwiReply
shown heard (Err reason) =
    if is_cut reason then without_numbers 0 0 else without_numbers 4 (reason_code reason)
shown heard (Ok x) = shown_reply heard x.0

-- how many of so many bytes it has
abbrev pub used : ℕ → Result (Reply × List ℕ) Reason → ℕ
used all (Err reason) = 0
used all (Ok x) = all - length x.1

-- the sender after it
abbrev pub hear_first : Defined → Result (Reply × List ℕ) Reason → Defined
hear_first s (Err reason) = s
hear_first s (Ok x) = hear s x.0

-- the number of what a reply was to a sender
abbrev pub heard_code : Heard → ℕ
heard_code Counted = 1
heard_code Known = 2
heard_code Noted = 3
heard_code Stranger = 4

-- what it was to the sender, if it is there
abbrev pub heard_first : Defined → Result (Reply × List ℕ) Reason → ℕ
heard_first s (Err reason) = 0
heard_first s (Ok x) = heard_code (heard s x.0)
