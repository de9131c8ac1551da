-- A worked delivery: over two links of a sender, beside one of another recorder.
use Rattle.std.specs.Prelude.{◌≡◌, ℕ, Some, List, [], ◌∷◌, ◌++◌, codes, map}
use Rattle.bw_model.specs.Take.{Open, Block, Close, Stored, NotOpen}
use Rattle.bw_model.specs.Wire.{Frame, Says}
use Rattle.bw_model.specs.Replies.{Judged}
use Rattle.bw_model.specs.Book.{Book}
use Rattle.bw_model.specs.Turn.{good, book_after}
use Rattle.bw_model.specs.Exchange.{nothing_stands}
use Rattle.bw_model.specs.ExampleWords.{hex, a1, mono, two_frames, open_0, block_1, close_2}
use Rattle.bw_model.specs.ExampleWords.{judged_example, says, file_in, small_file}
use Rattle.bw_model.specs.ExamplesOfWorlds.{small_take}
use Rattle.bw_exchange.specs.AnsweredFrames.{Answered}
use Rattle.bw_connections.specs.ConnectionTables.{Tagged}
use Rattle.bw_delivery.specs.Deliveries.{LinkBytes, IsDelivery, EachHeardStored}

-- all that the sender has to say, and what it is answered
abbrev pub all_said : List ℕ
all_said = open_0 ++ block_1 ++ close_2

abbrev pub all_judged : List ℕ
all_judged = judged_example 0 0 ++ judged_example 1 0 ++ judged_example 2 0

-- of the first link the server gets OPEN and three bytes more, and the sender nothing
abbrev pub cut_link : LinkBytes
cut_link = record {
  said = all_said;
  received = open_0 ++ hex "0c0000";
  answered = judged_example 0 0;
  heard = [];
}

-- of the second link each end gets all
abbrev pub whole_link : LinkBytes
whole_link = record {
  said = all_said;
  received = all_said;
  answered = all_judged;
  heard = all_judged;
}

-- a verdict on a number of `a1` that is stored
abbrev pub stores : ℕ → Frame → Answered
stores n f = record { frame = f; replies = Judged a1 n Stored ∷ [] }

-- a block of a take that was never opened, by another recorder
abbrev pub other_block : Frame
other_block = Says (record { name = codes "b2"; number = 0; request = Block two_frames })

-- what the server answered, over three links
abbrev pub worked_trace : List Tagged
worked_trace =
    (0, stores 0 (says 0 (Open mono [])))
    ∷ (1, record { frame = other_block; replies = Judged (codes "b2") 0 NotOpen ∷ [] })
    ∷ (2, stores 0 (says 0 (Open mono []))) ∷ (2, stores 1 (says 1 (Block two_frames)))
    ∷ (2, stores 2 (says 2 (Close 2))) ∷ []

-- the book that its frames leave
abbrev pub worked_book : Book
worked_book = book_after nothing_stands [] (map (λ t. (t.1.frame, good)) worked_trace)

-- the sender's links, by their numbers
abbrev pub worked_links : List (ℕ × LinkBytes)
worked_links = (0, cut_link) ∷ (2, whole_link) ∷ []

-- this is a delivery, in which each request was heard to be stored, and the file has two frames
abbrev pub WorkedDeliveryExample : Type 0
WorkedDeliveryExample =
    IsDelivery nothing_stands a1 small_take worked_links [] worked_book
    × EachHeardStored worked_links a1 small_take × (file_in worked_book ≡ Some small_file)
