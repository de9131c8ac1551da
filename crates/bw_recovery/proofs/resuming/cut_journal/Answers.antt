use Rattle.std.proofs.Common.{refl}
use Rattle.bw_recovery.specs.Paths.{notes_path}
use Rattle.bw_recovery.proofs.PartForms.{uncut}
use Rattle.bw_recovery.proofs.resuming.cut_journal.Goals as goal

pub returns-in_err-path-clause-part : goal.returns-in_err-path-clause-part
returns-in_err-path-clause-part g c = λ honest.
    let before = g.E.Disk.contents c.args.notes.now (notes_path c.args.folder.now c.args.name.now) in
    uncut before before c.args.len refl
