-- That the server has the file of a recorder over the C library.
use Rattle.std.specs.Prelude.{◌≡◌, ℕ, false, IsTrue, List}
use Rattle.std.specs.List.{list_any}
use Rattle.bw_model.specs.Book.{made_by}
use Rattle.bw_model.specs.File.{file_of}
use Rattle.bw_model.specs.World.{Sender, is_close}
use Rattle.bw_exchange.specs.AnsweredFrames.{Answered, AnswersAll}
use Rattle.bw_delivery.specs.Statement.{ServerKind, ServerPart, DidServe, Premises}
use Rattle.bw_end_to_end.specs.Recorders.{Recorder, IsRecorder, sender_part}

-- Under the promise's other premises: if its struct counts as many stored as were offered, and one of
-- its requests is a CLOSE, the disk has the file of the take that they make, byte for byte, after the
-- run, and after whatever more is answered.
abbrev pub RecordersHaveFiles : {T : Type 0} → ServerKind T → Type 0
RecordersHaveFiles {T} kind =
    (name : List ℕ) (count : ℕ) (s : Sender) (p : Recorder) (r : ServerPart T) →
    IsRecorder name count s p → DidServe kind (sender_part s p) r → Premises kind (sender_part s p) r →
    p.ended.stored ≡ p.ended.offered → IsTrue (list_any is_close (sender_part s p).requests) →
    (more : List Answered) (last : T) → AnswersAll kind.answers r.new more last →
    kind.contents last s.name ≡ file_of (made_by false (sender_part s p).requests) (kind.limit r.old)
