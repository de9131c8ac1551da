use Rattle.bw_end_to_end.proofs.RecorderLaws.{recorders_send, structs_count, counted_are_stored}
use Rattle.bw_end_to_end.proofs.c_promise.law_recorders.Goals as goal

pub returns : goal.returns
returns c = record { sends = recorders_send; counts = structs_count; stored = counted_are_stored }
