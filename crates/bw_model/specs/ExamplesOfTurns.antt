-- Worked rows: turns in which the store fails, memory is refused, or the table of names is full.
use Rattle.std.specs.Prelude.{◌≡◌, ℕ, zero, suc, Bool, true, Option, Some, None, List, [], ◌∷◌}
use Rattle.std.specs.Prelude.{◌++◌, codes, map, flat_map, take, drop, if◌then◌else◌}
use Rattle.std.specs.Str.{bytes_eq}
use Rattle.bw_model.specs.Take.{Open, Block, Mark, SetField, Close, Stored, NameTaken, NotOpen}
use Rattle.bw_model.specs.Wire.{Frame, Says, Asks}
use Rattle.bw_model.specs.Replies.{Reply, Judged, Noticed, Held, TooFar, Conflict, TableFull}
use Rattle.bw_model.specs.Replies.{NoRoom, DelayedStore, Next}
use Rattle.bw_model.specs.Book.{Book}
use Rattle.bw_model.specs.Turn.{Faults, good, turn, run, book_after}
use Rattle.bw_model.specs.Exchange.{content_in, nothing_stands}
use Rattle.bw_model.specs.ExampleWords.{a1, mono, two_frames, other_frames, example_limit, small_file}
use Rattle.bw_model.specs.ExampleWords.{cue_file, hex, says, fails_after, answers_to}
use Rattle.bw_model.specs.ExampleWords.{file_in, Turns}

-- OPEN, number 0
abbrev pub says_open : Frame
says_open = says 0 (Open mono [])

-- BLOCK of two frames, number 1
abbrev pub says_block : Frame
says_block = says 1 (Block two_frames)

-- BLOCK of other samples, number 1
abbrev pub says_other : Frame
says_other = says 1 (Block other_frames)

-- CLOSE of two frames, number 2
abbrev pub says_close : Frame
says_close = says 2 (Close 2)

-- the verdict Stored on a number
abbrev pub stored_reply : ℕ → Reply
stored_reply n = Judged a1 n Stored

-- a block whose store call fails is delayed and stored when it comes again; other bytes under its
-- number are a conflict then
abbrev pub FailedBlockExample : Type 0
FailedBlockExample = Turns
    ((says_open, good) ∷ (says_block, fails_after 0) ∷ (says_block, good) ∷ (says_other, good) ∷ [])
    ((stored_reply 0 ∷ []) ∷ (Noticed a1 1 DelayedStore 1 ∷ []) ∷ (stored_reply 1 ∷ [])
    ∷ (Noticed a1 1 Conflict 2 ∷ []) ∷ [])
    (Some small_file)

-- other bytes are a conflict if the first still wait, and their turn stores the first
abbrev pub OtherBehindFailureExample : Type 0
OtherBehindFailureExample = Turns
    ((says_open, good) ∷ (says_block, fails_after 0) ∷ (says_other, good) ∷ [])
    ((stored_reply 0 ∷ []) ∷ (Noticed a1 1 DelayedStore 1 ∷ [])
    ∷ (stored_reply 1 ∷ Noticed a1 1 Conflict 2 ∷ [])
    ∷ [])
    (Some small_file)

-- of three tries the third is stored, and the frames are there once
abbrev pub FailedTwiceExample : Type 0
FailedTwiceExample = Turns
    ((says_open, good) ∷ (says_block, fails_after 0) ∷ (says_block, fails_after 0)
    ∷ (says_block, good)
    ∷ (says_other, good) ∷ [])
    ((stored_reply 0 ∷ []) ∷ (Noticed a1 1 DelayedStore 1 ∷ []) ∷ (Noticed a1 1 DelayedStore 1 ∷ [])
    ∷ (stored_reply 1 ∷ []) ∷ (Noticed a1 1 Conflict 2 ∷ []) ∷ [])
    (Some small_file)

-- a drain that stops after OPEN gives only its verdict, and the next turn continues
abbrev pub StoppedDrainExample : Type 0
StoppedDrainExample = Turns
    ((says_close, good) ∷ (says_block, good) ∷ (says_open, fails_after 1) ∷ (says_block, good) ∷ [])
    ((Noticed a1 2 Held 0 ∷ []) ∷ (Noticed a1 1 Held 0 ∷ []) ∷ (stored_reply 0 ∷ [])
    ∷ (stored_reply 1 ∷ stored_reply 2 ∷ []) ∷ [])
    (Some small_file)

-- BLOCKs of this many numbers from n on, if nothing fails
abbrev pub waiting : ℕ → ℕ → List (Frame × Faults)
waiting n zero = []
waiting n (suc count) = (says n (Block two_frames), good) ∷ waiting (suc n) count

-- Held for each of this many numbers
abbrev pub held_each : ℕ → ℕ → List (List Reply)
held_each n zero = []
held_each n (suc count) = (Noticed a1 n Held 0 ∷ []) ∷ held_each (suc n) count

-- Stored for each of this many numbers
abbrev pub stored_each : ℕ → ℕ → List Reply
stored_each n zero = []
stored_each n (suc count) = stored_reply n ∷ stored_each (suc n) count

-- fifteen numbers wait while OPEN's store call fails; a sixteenth then drains all: sixteen verdicts
-- and its own TooFar
abbrev pub SeventeenRepliesExample : Type 0
SeventeenRepliesExample =
    answers_to (waiting 1 15 ++ (says_open, fails_after 0) ∷ (says 16 (Block two_frames), good)
    ∷ [])
    ≡ held_each 1 15 ++ (Noticed a1 0 DelayedStore 0 ∷ [])
    ∷ (stored_each 0 16 ++ Noticed a1 16 TooFar 16 ∷ []) ∷ []

-- a whole take sent twice, while the store fails once, at one of its numbers
abbrev pub whole_turns : Faults → Faults → Faults → Faults → List (Frame × Faults)
whole_turns w x y z =
    (says_open, w) ∷ (says_block, x) ∷ (says 2 (SetField 1 (codes "Rain")), y)
    ∷ (says 3 (Mark 7 2), good) ∷ (says 4 (Close 2), z) ∷ []

-- the numbers that were answered DelayedStore
abbrev pub delayed_in : List Reply → List ℕ
delayed_in [] = []
delayed_in (Noticed name n DelayedStore next ∷ rs) = n ∷ delayed_in rs
delayed_in (r ∷ rs) = delayed_in rs

-- the numbers that were answered DelayedStore, and the file
abbrev pub sent_twice : Faults → Faults → Faults → Faults → List ℕ × Option (List ℕ)
sent_twice w x y z =
    let ts = whole_turns w x y z ++ whole_turns good good good good in
    (flat_map delayed_in (answers_to ts), file_in (book_after nothing_stands [] ts))

-- the file with a cue point, and `Rain` as its Description
abbrev pub rain_file : Option (List ℕ)
rain_file = Some (take 80 cue_file ++ hex "5261696e" ++ drop 84 cue_file)

-- wherever the store fails once, that number alone is delayed, and the file is the one of a run
-- without a failure
abbrev pub FailedAnywhereExample : Type 0
FailedAnywhereExample =
    sent_twice good good good good ∷ sent_twice (fails_after 0) good good good
    ∷ sent_twice good (fails_after 0) good good ∷ sent_twice good good (fails_after 0) good
    ∷ sent_twice good good good (fails_after 0) ∷ []
    ≡ ([], rain_file) ∷ (0 ∷ [], rain_file) ∷ (1 ∷ [], rain_file) ∷ (2 ∷ [], rain_file)
    ∷ (4 ∷ [], rain_file) ∷ []

-- Names.

-- a table of this many names, each with a BLOCK that waits
abbrev pub names_from : ℕ → ℕ → Book
names_from first zero = []
names_from first (suc count) =
    (first ∷ [], record { admitted = None ∷ Some (Block two_frames) ∷ []; done = 0 })
    ∷ names_from (suc first) count

-- the turn of a further name when 256 names are known
abbrev pub full_turn : Frame → List Reply × Book
full_turn f = turn nothing_stands (names_from 0 256) f good

-- a BLOCK of a further name
abbrev pub further : ℕ → Frame
further n = Says (record { name = codes "b2"; number = n; request = Block two_frames })

-- no further name is taken, and nothing changes
abbrev pub FullTableExample : Type 0
FullTableExample = full_turn (further 1) ≡ (Noticed (codes "b2") 1 TableFull 0 ∷ [], names_from 0 256)

-- a number past the window is reported first
abbrev pub FullTableTooFarExample : Type 0
FullTableTooFarExample = full_turn (further 16)
    ≡ (Noticed (codes "b2") 16 TooFar 0 ∷ [], names_from 0 256)

-- an ask needs no room
abbrev pub FullTableAskExample : Type 0
FullTableAskExample =
    full_turn (Asks (codes "b2") 0) ≡ (Noticed (codes "b2") 0 Next 0 ∷ [], names_from 0 256)

-- a growth that is refused leaves the book
abbrev pub NoRoomExample : Type 0
NoRoomExample =
    turn nothing_stands [] says_open (record { refused = true; stop = None })
    ≡ (Noticed a1 0 NoRoom 0 ∷ [], [])

-- a store in which `a1` was at the start
abbrev pub stands : List ℕ → Option (List ℕ)
stands name = if bytes_eq name a1 then Some (codes "kept") else None

-- the names of that store
abbrev pub a1_stands : List ℕ → Bool
a1_stands name = bytes_eq name a1

-- OPEN and BLOCK for that name
abbrev pub onto_a1 : List (Frame × Faults)
onto_a1 = (says_open, good) ∷ (says_block, good) ∷ []

-- OPEN is refused for it, and its file stays
abbrev pub NameTakenExample : Type 0
NameTakenExample =
    (map (λ t. t.replies) (run a1_stands [] onto_a1)
    ≡ (Judged a1 0 NameTaken ∷ []) ∷ (Judged a1 1 NotOpen ∷ []) ∷ [])
    × (content_in stands example_limit (book_after a1_stands [] onto_a1) a1 ≡ Some (codes "kept"))
