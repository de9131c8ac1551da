-- Which replies stop a sender's talk.
use Rattle.std.specs.Prelude.{ℕ, Option, Some, None, List, [], ◌∷◌}
use Rattle.bw_model.specs.Replies.{Reply, Judged, Noticed, Refused, Notice, Held, TooFar, Conflict}
use Rattle.bw_model.specs.Replies.{TableFull, NoRoom, DelayedStore, Next}
use Rattle.bw_model.specs.World.{Sender, Heard, Counted, Known, Noted, Stranger, hear, heard}
use Rattle.bw_sender.specs.declared.stop.Stop.{Stop}
use Rattle.bw_sender.specs.declared.stop.Stop.TheVariants as stops

-- a notice on a number stops the talk, unless it is Held or the answer to an ask
abbrev pub stop_of_notice : Notice → ℕ → Option Stop
stop_of_notice Held n = None
stop_of_notice TooFar n = Some (stops.TooFar n)
stop_of_notice Conflict n = Some (stops.Conflict n)
stop_of_notice TableFull n = Some stops.TableFull
stop_of_notice NoRoom n = Some stops.NoRoom
stop_of_notice DelayedStore n = Some stops.DelayedStore
stop_of_notice Next n = None

-- only if it is on an offered number of the sender's name
abbrev pub stop_if_noted : Heard → Notice → ℕ → Option Stop
stop_if_noted Counted code n = None
stop_if_noted Known code n = None
stop_if_noted Noted code n = stop_of_notice code n
stop_if_noted Stranger code n = None

-- whether a reply stops the talk, by what it was to the sender
abbrev pub stop_by : Heard → Reply → Option Stop
stop_by h (Judged name n v) = None
stop_by h (Noticed name n code next) = stop_if_noted h code n
stop_by h (Refused reason place) = Some stops.BadFrame

-- the first of two, if there is one
abbrev pub first_of : Option Stop → Option Stop → Option Stop
first_of None then = then
first_of (Some stop) then = Some stop

-- the first of these replies to a sender that stops the talk
abbrev pub first_stop : Sender → List Reply → Option Stop
first_stop s [] = None
first_stop s (r ∷ rs) = first_of (stop_by (heard s r) r) (first_stop (hear s r) rs)
