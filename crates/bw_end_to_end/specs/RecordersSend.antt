-- That a recorder over the C library is a sender of the promise.
use Rattle.std.specs.Prelude.{◌≡◌, ◌<◌, ℕ, Some, List, length}
use Rattle.bw_model.specs.Bytes.{at}
use Rattle.bw_model.specs.Take.{Stored}
use Rattle.bw_model.specs.World.{Sender}
use Rattle.bw_c.specs.PlainSenders.{IsPlainSender}
use Rattle.bw_delivery.specs.Statement.{DidSend}
use Rattle.bw_end_to_end.specs.Recorders.{Recorder, IsRecorder, sender_after, sender_part}

-- It wrote nothing but its requests, each under its number, and has no verdict but those that it had
-- or that its links gave it.
abbrev pub RecordersSend : Type 0
RecordersSend = (name : List ℕ) (count : ℕ) (s : Sender) (p : Recorder) → IsRecorder name count s p →
    DidSend (sender_part s p)

-- Its struct counts these requests and verdicts.
abbrev pub StructsCount : Type 0
StructsCount = (name : List ℕ) (count : ℕ) (s : Sender) (p : Recorder) → IsRecorder name count s p →
    IsPlainSender (sender_after s p.calls) p.ended

-- If it counts as many stored as were offered, each request has the verdict Stored.
abbrev pub CountedAreStored : Type 0
CountedAreStored = (name : List ℕ) (count : ℕ) (s : Sender) (p : Recorder) →
    IsRecorder name count s p →
    p.ended.stored ≡ p.ended.offered → (n : ℕ) → n < length (sender_part s p).requests →
    at (sender_part s p).has n ≡ Some Stored
