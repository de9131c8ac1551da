use Rattle.bw_repair.proofs.PieceCopies.{stopped_later, whole}
use Rattle.bw_repair.proofs.conversions.copying.copy_all.Goals as goal

pub returns-in-Ok-eq0-clause-ok : goal.returns-in-Ok-eq0-clause-ok
returns-in-Ok-eq0-clause-ok g c = λ w e.
    let far = c.loop-place.invariant.bytes w e in
    whole g.D.Disk (g.D.Disk.path_of c.args.file.now) (g.D.Disk.path_of c.loop-place.file) w c.loop-place.place
    c.in-Ok-eq0.field-0 _ _ _ _ _ c.loop-place.invariant.path c.loop-place.invariant.step.honest
    c.in-Ok-eq0.field-0-test far (c.in-Ok-eq0.ensures.ok w far.rest far.within)

pub returns-in-Err-clause-err : goal.returns-in-Err-clause-err
returns-in-Err-clause-err g c = λ w e.
    let far = c.loop-place.invariant.bytes w e in
    stopped_later g.D.Disk (g.D.Disk.path_of c.args.file.now) (g.D.Disk.path_of c.loop-place.file) w c.loop-place.place
    c.in-Err.fault.kind _ _ _ _ c.loop-place.invariant.path c.loop-place.invariant.step.honest far
    (c.in-Err.ensures.err w far.rest far.within)
