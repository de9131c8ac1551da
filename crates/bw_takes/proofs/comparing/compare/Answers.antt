use Rattle.std.proofs.Common.{List, ℕ, Option, ◌∙◌, subst}
use Rattle.bw_recovery.proofs.ListForms.{if_ok}
use Rattle.bw_recovery.specs.Paths.{notes_path, wave_path}
use Rattle.bw_takes.specs.TakeFindings.{IsTakeFound}
use Rattle.bw_takes.proofs.ComparingLemmas.{begun}
use Rattle.bw_takes.proofs.comparing.compare.Goals as goal

pub returns-in-Begun-clause-found : goal.returns-in-Begun-clause-found
returns-in-Begun-clause-found g c honest =
    let name = c.args.name.now in
    let contents : List ℕ → Option (List ℕ) = g.D.Disk.contents c.args.disk.now in
    let notes = contents (notes_path c.args.folder.now name) in
    let wave = contents (wave_path c.args.folder.now name) in
    if_ok c.compare_begun.result _ _
    (λ after is found. is ∙ begun name c.in-Begun.replayed notes wave
    (subst (IsTakeFound name notes wave) c.in-Begun.is found)) (c.compare_begun.ensures.found honest)
