use Rattle.std.proofs.Common.{length, arith}
use Rattle.std.proofs.lemmas.List.{length-take}
use Rattle.bw_store.proofs.Tears.{either_tears}
use Rattle.bw_disk.proofs.mortal.MortalDiskDisk.write_at.Goals as goal

pub returns-then-is_dying-clause-failed : goal.returns-then-is_dying-clause-failed
returns-then-is_dying-clause-failed g c =
    rw (c.counted.ensures.answer, c.counted.ensures.counted.inner, ← c.self.view_is) (λ honest.
    either_tears c.write_at.result _ _ c.args.offset (length c.args.bytes.now) _ (grind (arith, length-take))
    (c.write_at.ensures.written honest) (c.write_at.ensures.failed honest))
