use Rattle.std.proofs.Common.{ℕ, List, Option, refl, ap, is_some, subst}
use Rattle.bw_disk.specs.ReadFaults.{is_disk_fault}
use Rattle.bw_disk.specs.Volumes.{IsCutInPart}
use Rattle.bw_recovery.specs.Adoptions.{AdoptsInPart}
use Rattle.bw_recovery.specs.Paths.{wave_path, notes_path}
use Rattle.bw_recovery.specs.Changes.{IsCrowded}
use Rattle.bw_recovery.proofs.CountForms.{only_takes, changed_stands}
use Rattle.bw_recovery.proofs.NameStays.{same_file, adopted_file, begun_left}
use Rattle.bw_recovery.proofs.resuming.restore_begun.Goals as goal

pub returns-in_err-cut_torn-clause-left : goal.returns-in_err-cut_torn-clause-left
returns-in_err-cut_torn-clause-left g c = λ limit f.
    let b = c.args.begun.now in
    let later = g.E.Disk.contents c.cut_torn.new.notes (notes_path c.args.folder.now c.args.name.now) in
    let file = g.D.Disk.contents c.args.takes.now (wave_path c.args.folder.now c.args.name.now) in
    begun_left limit c.args.name.now f.journal file later file b f.found
    (subst (λ (o : Option (List ℕ)). IsCutInPart o b.replayed.used later) f.stands
    (c.in_err-cut_torn.ensures.part f.notes_honest))
    (same_file limit b.replayed.state.parts file file refl)

pub returns-clause-left : goal.returns-clause-left
returns-clause-left g c = λ limit f.
    let b = c.args.begun.now in
    let later = g.E.Disk.contents c.cut_torn.new.notes (notes_path c.args.folder.now c.args.name.now) in
    let file = g.D.Disk.contents c.args.takes.now (wave_path c.args.folder.now c.args.name.now) in
    let file_now = g.D.Disk.contents c.adopt_file.new.takes (wave_path c.args.folder.now c.args.name.now) in
    begun_left limit c.args.name.now f.journal file later file_now b f.found
    (subst (λ (o : Option (List ℕ)). IsCutInPart o b.replayed.used later) f.stands
    (c.in_ok-cut_torn.ensures.part f.notes_honest))
    (adopted_file limit c.args.name.now f.journal file file_now b f.found f.spares
    (λ place count. subst (λ (h : List ℕ). AdoptsInPart place count b.adoption h file file_now) c.deref.ensures.value
    (c.adopt_file.ensures.part f.takes_honest place count)))

pub returns-clause-failures : goal.returns-clause-failures
returns-clause-failures g c = λ limit f.
    let file = g.D.Disk.contents c.args.takes.now (wave_path c.args.folder.now c.args.name.now) in
    let some = ap (λ (o : Option (List ℕ)). is_some o) f.stands in
    only_takes (IsCrowded c.args.folder.now c.args.name.now (g.D.Disk.contents c.args.takes.now))
    (g.D.Disk.failures c.args.takes.now) (g.D.Disk.failures c.adopt_file.new.takes)
    (g.E.Disk.failures c.args.notes.now) (g.E.Disk.failures c.cut_torn.new.notes) (is_disk_fault c.adopt_file.result)
    ((c.in_ok-cut_torn.ensures.failures f.notes_honest some).quiet refl)
    (c.adopt_file.ensures.failures f.takes_honest
    (λ keeps. changed_stands limit c.args.name.now f.journal file c.args.begun.now f.found f.spares keeps))
