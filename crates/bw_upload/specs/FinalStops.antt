-- The replies that end an upload: Conflict and TooFar.
use Rattle.std.specs.Prelude.{List, [], ◌∷◌, ◌++◌}
use Rattle.bw_sender.specs.declared.stop.Stop.{Stop}
use Rattle.bw_sender.specs.declared.stop.Stop.TheVariants as stops
use Rattle.bw_upload.specs.Courses.{UploadEvent, Fills, Misses, Makes, Talks, Leaves}
use Rattle.bw_upload.specs.declared.observer.LinkEnd.{LinkEnd}
use Rattle.bw_upload.specs.declared.observer.LinkEnd.TheVariants as ends
use Rattle.bw_upload.specs.declared.outcome.Outcome.{Outcome}
use Rattle.bw_upload.specs.declared.outcome.Outcome.TheVariants as outcomes

-- the one for which a link was left, if it was
abbrev pub final_stop : LinkEnd → List Stop
final_stop (ends.Stopped (stops.Conflict n)) = stops.Conflict n ∷ []
final_stop (ends.Stopped (stops.TooFar n)) = stops.TooFar n ∷ []
final_stop (ends.Stopped stops.TableFull) = []
final_stop (ends.Stopped stops.NoRoom) = []
final_stop (ends.Stopped stops.DelayedStore) = []
final_stop (ends.Stopped stops.BadFrame) = []
final_stop ends.Ended = []
final_stop (ends.Broken fault) = []
final_stop ends.Refused = []
final_stop ends.Done = []

-- those for which links were left, in their order
abbrev pub final_stops : List UploadEvent → List Stop
final_stops [] = []
final_stops (Fills e ∷ events) = final_stops events
final_stops (Misses ∷ events) = final_stops events
final_stops (Makes ∷ events) = final_stops events
final_stops (Talks e ∷ events) = final_stops events
final_stops (Leaves end ∷ events) = final_stop end ++ final_stops events

-- the one that an outcome names
abbrev pub named_stop : {X : Type 0} → Outcome X → List Stop
named_stop outcomes.Done = []
named_stop (outcomes.Refused n v) = []
named_stop (outcomes.Conflict n) = stops.Conflict n ∷ []
named_stop (outcomes.TooFar n) = stops.TooFar n ∷ []
named_stop (outcomes.NotOffered error) = []
named_stop outcomes.Fruitless = []
named_stop (outcomes.Feed fault) = []
named_stop outcomes.Memory = []
named_stop outcomes.Limit = []
