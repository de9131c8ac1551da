use Rattle.std.proofs.Common.{refl}
use Rattle.bw_recovery.specs.Paths.{notes_path}
use Rattle.bw_recovery.proofs.PartForms.{uncut}
use Rattle.bw_recovery.proofs.resuming.cut_torn.Goals as goal

pub returns-then-replayed-eq0-clause-part : goal.returns-then-replayed-eq0-clause-part
returns-then-replayed-eq0-clause-part g c = λ honest.
    let before = g.E.Disk.contents c.args.notes.now (notes_path c.args.folder.now c.args.name.now) in
    uncut before before c.args.replayed.now.used refl
