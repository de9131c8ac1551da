use Rattle.bw_recovery.proofs.PartForms.{uncut}
use Rattle.bw_recovery.proofs.resuming.cut_at.Goals as goal

pub returns-in_default-clause-part : goal.returns-in_default-clause-part
returns-in_default-clause-part g c = λ honest.
    uncut (g.E.Disk.contents c.args.notes.now c.args.path.now) (g.E.Disk.contents c.open.new.self c.args.path.now) c.args.len
    (c.open.ensures.contents honest c.args.path.now)
