use Rattle.std.proofs.Common.{ℕ, List, Option, Some, refl, subst}
use Rattle.bw_disk.specs.Volumes.{IsCutInPart}
use Rattle.bw_recovery.specs.Findings.{IsFound}
use Rattle.bw_recovery.specs.Paths.{wave_path, notes_path}
use Rattle.bw_recovery.proofs.NameStays.{same_left, torn_left}
use Rattle.bw_recovery.proofs.RestoreForms.{found_as}
use Rattle.bw_recovery.proofs.resuming.restore_name.Goals as goal

pub returns-in-Refused-clause-left : goal.returns-in-Refused-clause-left
returns-in-Refused-clause-left g c = λ limit f.
    let file = g.D.Disk.contents c.args.takes.now (wave_path c.args.folder.now c.args.name.now) in
    same_left limit c.args.name.now (Some f.journal) file
    (g.E.Disk.contents c.args.notes.now (notes_path c.args.folder.now c.args.name.now)) file f.stands refl

pub returns-in-Unbegun-clause-left : goal.returns-in-Unbegun-clause-left
returns-in-Unbegun-clause-left g c = λ limit f.
    let later = g.E.Disk.contents c.cut_journal.new.notes (notes_path c.args.folder.now c.args.name.now) in
    let file = g.D.Disk.contents c.args.takes.now (wave_path c.args.folder.now c.args.name.now) in
    torn_left limit c.args.name.now f.journal file later file
    (subst (IsFound limit c.args.name.now f.journal file) c.in-Unbegun.is f.found).0
    (subst (λ (o : Option (List ℕ)). IsCutInPart o 0 later) f.stands (c.cut_journal.ensures.part f.notes_honest)) refl

pub returns-in-Begun-clause-restored : goal.returns-in-Begun-clause-restored
returns-in-Begun-clause-restored g c = λ limit f sound.
    c.restore_begun.ensures.restored limit
    (found_as g.D.Disk g.E.Disk limit c.args.folder.now c.args.name.now c.args.takes.now c.args.notes.now
    c.args.finding.now _ c.in-Begun.is f)

pub returns-in-Begun-clause-left : goal.returns-in-Begun-clause-left
returns-in-Begun-clause-left g c = λ limit f.
    c.restore_begun.ensures.left limit
    (found_as g.D.Disk g.E.Disk limit c.args.folder.now c.args.name.now c.args.takes.now c.args.notes.now
    c.args.finding.now _ c.in-Begun.is f)

pub returns-in-Begun-clause-failures : goal.returns-in-Begun-clause-failures
returns-in-Begun-clause-failures g c = λ limit f.
    c.restore_begun.ensures.failures limit
    (found_as g.D.Disk g.E.Disk limit c.args.folder.now c.args.name.now c.args.takes.now c.args.notes.now
    c.args.finding.now _ c.in-Begun.is f)
