-- A worked row: a server that stops in the turn of an OPEN that it has noted, and the next one.
use Rattle.std.specs.Prelude.{◌≡◌, ℕ, Some, List, [], ◌∷◌}
use Rattle.bw_model.specs.Take.{Open, Stored}
use Rattle.bw_model.specs.Wire.{Message, Says}
use Rattle.bw_model.specs.Replies.{Reply, Judged, Noticed, DelayedStore}
use Rattle.bw_model.specs.Book.{Book}
use Rattle.bw_model.specs.Turn.{good}
use Rattle.bw_model.specs.Exchange.{nothing_stands}
use Rattle.bw_model.specs.ExampleWords.{a1, mono}
use Rattle.bw_model.specs.World.{World, Offer, Send, Bring, new_world, settled}
use Rattle.bw_exchange.specs.AnsweredFrames.{Answered}
use Rattle.bw_delivery.specs.StoppedWorlds.{WorldStep, Happens, Answers, Stops, Starts, WorldStepsTo}

-- an OPEN, the number 0 of its name
abbrev pub open_message : Message
open_message = record { name = a1; number = 0; request = Open mono [] }

-- the book of that OPEN, with so many done numbers
abbrev pub opened_book : ℕ → Book
opened_book done = (a1, record { admitted = Some (Open mono []) ∷ []; done = done }) ∷ []

-- an OPEN that is answered so
abbrev pub opened_so : Reply → List Answered
opened_so reply = record { frame = Says open_message; replies = reply ∷ [] } ∷ []

-- the OPEN is sent; a call fails in its turn, but it was noted; the next server puts it off first, and
-- answers it when it comes again; and the sender gets that reply
abbrev pub stopped_steps : List WorldStep
stopped_steps =
    Happens (Offer (Open mono [])) good
    ∷ Happens (Send 0) good
    ∷ Stops (opened_so (Noticed a1 0 DelayedStore 0)) (opened_book 0) (opened_book 1)
    ∷ Starts
    ∷ Answers (opened_so (Noticed a1 0 DelayedStore 0)) (opened_book 1)
    ∷ Answers (opened_so (Judged a1 0 Stored)) (opened_book 1)
    ∷ Happens (Bring 1) good
    ∷ []

-- two replies were written by the second server, of which one is a verdict
abbrev pub world_after_stop : World
world_after_stop = record {
  sender = record { name = a1; offered = Open mono [] ∷ []; verdicts = Some Stored ∷ [] };
  sent = open_message ∷ [];
  book = opened_book 1;
  replies = Noticed a1 0 DelayedStore 0 ∷ Judged a1 0 Stored ∷ [];
}

-- the sender counts it
abbrev pub StoppedTurnExample : Type 0
StoppedTurnExample =
    WorldStepsTo nothing_stands (new_world a1) stopped_steps world_after_stop
    × (settled world_after_stop.sender ≡ 1)
