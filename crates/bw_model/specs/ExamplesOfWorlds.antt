-- Worked rows: what a sender counts, and a rehearsal.
use Rattle.std.specs.Prelude.{◌≡◌, ℕ, Some, None, List, [], ◌∷◌, ◌++◌, codes, fold, length, map}
use Rattle.std.specs.Prelude.{replicate, slice_get}
use Rattle.bw_model.specs.Take.{Request, Open, Block, Mark, Close, Stored, BadBlock}
use Rattle.bw_model.specs.Replies.{Reply, Judged, Noticed, Refused, Held, Next}
use Rattle.bw_model.specs.Wire.{Bye, Cut}
use Rattle.bw_model.specs.Stream.{frames_bytes}
use Rattle.bw_model.specs.Book.{log_of}
use Rattle.bw_model.specs.Turn.{good}
use Rattle.bw_model.specs.World.{Sender, World, Event, Offer, Send, Deliver, Bring, Ask, new_world}
use Rattle.bw_model.specs.World.{world_after, settled, stored, refused, pending, offer, offer_fault}
use Rattle.bw_model.specs.World.{BeforeOpen, AfterClose, WindowFull, hear, heard, Heard, Counted}
use Rattle.bw_model.specs.World.{Known, Noted, Stranger}
use Rattle.bw_model.specs.ExampleWords.{hex, a1, mono, two_frames, open_0, block_1, close_2, small_file}
use Rattle.bw_model.specs.Exchange.{nothing_stands}
use Rattle.bw_model.specs.ExampleWords.{file_in, says}

-- The sender.

-- a sender of `a1` to which these were offered
abbrev pub sender_of : List Request → Sender
sender_of rs = fold offer (record { name = a1; offered = []; verdicts = [] }) rs

-- the requests of two frames
abbrev pub small_take : List Request
small_take = Open mono [] ∷ Block two_frames ∷ Close 2 ∷ []

-- the messages of the small take and BYE are 63 bytes
abbrev pub BatchExample : Type 0
BatchExample =
    (frames_bytes (says 0 (Open mono []) ∷ says 1 (Block two_frames) ∷ says 2 (Close 2) ∷ Bye ∷ [])
    ≡ open_0 ++ block_1 ++ close_2 ++ hex "0100000009")
    × (length (open_0 ++ block_1 ++ close_2 ++ hex "0100000009") ≡ 63)

-- what the sender hears of each reply, and the sender after them
abbrev pub hears : Sender → List Reply → List Heard
hears s [] = []
hears s (r ∷ rs) = heard s r ∷ hears (hear s r) rs

-- the sender after these replies
abbrev pub following : List Reply → Sender
following rs = fold hear (sender_of small_take) rs

-- two of three verdicts came: the first number is settled, and the second is pending
abbrev pub first_batch : List Reply
first_batch = Judged a1 0 Stored ∷ Noticed a1 1 Held 1 ∷ Judged a1 2 Stored ∷ []

-- the first verdicts count, and a notice is noted
abbrev pub HearsExample : Type 0
HearsExample =
    (hears (sender_of small_take) first_batch ≡ Counted ∷ Noted ∷ Counted ∷ [])
    × (settled (following first_batch) ≡ 1)
    × (stored (following first_batch) ≡ 1)
    × (pending (following first_batch) 0 ≡ Some (1, Block two_frames))

-- then the block's verdict comes, a refusal
abbrev pub second_batch : List Reply
second_batch = first_batch ++ Judged a1 1 BadBlock ∷ []

-- a refused block is settled and not stored, its first verdict stays, and other names and numbers
-- are strange
abbrev pub RefusedExample : Type 0
RefusedExample =
    (settled (following second_batch) ≡ 3) × (stored (following second_batch) ≡ 2)
    × (refused (following second_batch) ≡ (1, BadBlock) ∷ [])
    × (hears (following second_batch) (Judged a1 1 Stored ∷ Judged (codes "b2") 1 Stored
    ∷ Judged a1 3 Stored ∷ []) ≡ Known ∷ Stranger ∷ Stranger ∷ [])

-- Next of its own name is noted whatever its number, another notice of a number that wasn't offered
-- is strange, and so is a bad frame
abbrev pub NoticesExample : Type 0
NoticesExample =
    hears (sender_of small_take) (Noticed a1 9 Next 0 ∷ Noticed a1 9 Held 0
    ∷ Noticed (codes "b2") 0 Next 0 ∷ Refused Cut 0 ∷ [])
    ≡ Noted ∷ Stranger ∷ Stranger ∷ Stranger ∷ []

-- nothing before OPEN, nothing after a CLOSE that has no verdict, and no seventeenth offer
abbrev pub OffersExample : Type 0
OffersExample =
    offer_fault (sender_of []) (Block two_frames)
    ∷ offer_fault (sender_of small_take) (Mark 7 0)
    ∷ offer_fault (sender_of (Open mono [] ∷ replicate 14 (Block two_frames))) (Mark 7 0)
    ∷ offer_fault (sender_of (Open mono [] ∷ replicate 15 (Block two_frames))) (Mark 7 0)
    ∷ []
    ≡ Some BeforeOpen ∷ Some AfterClose ∷ None ∷ Some WindowFull ∷ []

-- The rehearsal.

-- CLOSE goes first and waits; the verdicts come out of order, one of them twice
abbrev pub rehearsal : List Event
rehearsal =
    Offer (Open mono []) ∷ Offer (Block two_frames) ∷ Offer (Close 2) ∷ Send 2 ∷ Deliver 0 ∷ Send 0
    ∷ Deliver 1 ∷ Bring 0 ∷ Bring 1 ∷ Send 0 ∷ Deliver 2 ∷ Deliver 2 ∷ Bring 3 ∷ []

-- the world after these events, if nothing fails
abbrev pub rehearsed : List Event → World
rehearsed events = world_after nothing_stands (new_world a1) (map (λ e. (e, good)) events)

-- how many were offered, sent and replied, and how many are done, settled and stored
abbrev pub counts : World → List ℕ
counts w =
    length w.sender.offered ∷ length w.sent ∷ length w.replies ∷ (log_of w.book a1).done
    ∷ settled w.sender ∷ stored w.sender ∷ []

-- all is settled once the verdict of number 1 comes
abbrev pub whole_world : List Event
whole_world = rehearsal ++ Bring 4 ∷ []

-- before the verdict of number 1 comes, one number is settled; then all are, and the file has two
-- frames
abbrev pub RehearsalExample : Type 0
RehearsalExample =
    (counts (rehearsed rehearsal) ≡ 3 ∷ 3 ∷ 5 ∷ 3 ∷ 1 ∷ 1 ∷ [])
    × (counts (rehearsed whole_world) ≡ 3 ∷ 3 ∷ 5 ∷ 3 ∷ 3 ∷ 3 ∷ [])
    × (file_in (rehearsed whole_world).book ≡ Some small_file)

-- the replies in the order in which they were written
abbrev pub RehearsalRepliesExample : Type 0
RehearsalRepliesExample =
    (rehearsed rehearsal).replies
    ≡ Noticed a1 2 Held 0 ∷ Judged a1 0 Stored ∷ Judged a1 1 Stored ∷ Judged a1 2 Stored
    ∷ Judged a1 1 Stored ∷ []

-- the world after an ask whose reply came
abbrev pub asked : World
asked = rehearsed (whole_world ++ Ask ∷ Bring 5 ∷ [])

-- an ask adds a reply, and bringing it changes nothing
abbrev pub RehearsalAskExample : Type 0
RehearsalAskExample =
    (counts asked ≡ 3 ∷ 3 ∷ 6 ∷ 3 ∷ 3 ∷ 3 ∷ [])
    × (slice_get asked.replies 5 ≡ Some (Noticed a1 0 Next 3))
