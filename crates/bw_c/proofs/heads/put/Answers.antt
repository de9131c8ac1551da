use Rattle.std.proofs.Common.{◌≡◌, ℕ, length, ap, arith}
use Rattle.bw_c.proofs.HeadLaws.{put_taken, put_dropped}
use Rattle.bw_c.proofs.heads.put.Goals as goal

pub returns-clause-room : goal.returns-clause-room
returns-clause-room c = λ fits. (
  ap (length {A = ℕ}) c.as_slice-bytes.ensures.value,
  put_taken _ _ _ _ c.copy_from_slice.ensures.after c.as_slice-bytes.ensures.value,
  put_dropped _ _ _ c.copy_from_slice.ensures.after,
)
