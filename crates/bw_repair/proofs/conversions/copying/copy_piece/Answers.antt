use Rattle.bw_repair.proofs.PieceCopies.{copied, unwritten}
use Rattle.bw_repair.proofs.conversions.copying.copy_piece.Goals as goal

pub returns-in-Ok-append-clause-ok : goal.returns-in-Ok-append-clause-ok
returns-in-Ok-append-clause-ok g c = λ w e there.
    copied g.D.Disk (g.D.Disk.path_of c.args.file.now) w c.args.place _ c.in-Ok.count c.read.new.buf _ _ _ there
    c.requires.room (c.in-Ok.ensures.ok _ e) c.in-Ok-append.ensures.written

pub returns-in-Err-clause-err : goal.returns-in-Err-clause-err
returns-in-Err-clause-err g c = λ w e there.
    unwritten g.D.Disk (g.D.Disk.path_of c.args.file.now) w c.args.place _ c.in-Ok.count c.read.new.buf
    c.fault_at-in-Err.result _ _ _ there (c.in-Ok.ensures.ok _ e) c.in-Err.ensures.failed c.fault_at-in-Err.ensures
