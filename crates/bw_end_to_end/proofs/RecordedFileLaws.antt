-- The promise, of a recorder over the C library.
use Rattle.bw_delivery.specs.Statement.{ServerKind, Promise}
use Rattle.bw_end_to_end.specs.RecordedFiles.{RecordersHaveFiles}
use Rattle.bw_end_to_end.specs.Recorders.{sender_part}
use Rattle.bw_end_to_end.proofs.RecorderLaws.{recorders_send, counted_are_stored}

pub recorders_have_files : {T : Type 0} (kind : ServerKind T) → Promise kind → RecordersHaveFiles kind
recorders_have_files kind promised name count s p r is served premises all closes more last answers =
    promised.file (sender_part s p) r (recorders_send name count s p is) served premises
    (counted_are_stored name count s p is all) closes more last answers
