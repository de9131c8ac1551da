use Rattle.std.proofs.Common.{length, ap, ◌∙◌}
use Rattle.bw_take_files.proofs.BodyLemmas.{length_of_zeros}
use Rattle.bw_take_files.proofs.samples.compare_file.Goals as goal

pub first_changed-requires-clause-zeros : goal.first_changed-requires-clause-zeros
first_changed-requires-clause-zeros g c = c.deref.ensures.value ∙ c.in_ok-zeros.ensures.value

pub first_changed-requires-clause-room : goal.first_changed-requires-clause-room
first_changed-requires-clause-room g c =
    ap length c.deref_mut.ensures.value ∙ length_of_zeros c.in_ok-room.room.items _ c.in_ok-room.ensures.value
