use Rattle.std.proofs.Common.{◌∙◌, ap, refl, Some}
use Rattle.bw_contents.specs.Contents.{chunks_say}
use Rattle.bw_report.specs.declared.found.Found.TheVariants.{Read, Faulty}
use Rattle.bw_report.proofs.LookLemmas.{found_opened, found_unopened, no_fault}
use Rattle.bw_report.proofs.files.look_within.Goals as goal

pub returns-in-Ok-read_contents-clause-found : goal.returns-in-Ok-read_contents-clause-found
returns-in-Ok-read_contents-clause-found g c = λ asked given.
    found_opened g.E.Sink _ asked _ c.args.path.now
    (Read c.args.report c.args.digest (Some c.in-Ok-read_contents.contents)) _ _ _
    (λ b e. (
      given b e,
      ap Some (c.in-Ok-read_contents.ensures b (c.in-Ok.ensures.ok b e) ∙ ap (chunks_say b) c.as_slice.ensures),
    )) (refl, refl) c.in-Ok.ensures.count

pub returns-in-Err-read_contents-clause-found : goal.returns-in-Err-read_contents-clause-found
returns-in-Err-read_contents-clause-found g c = λ asked given.
    found_opened g.E.Sink _ asked _ c.args.path.now (Faulty c.unread.result) _ _ _
    (λ b e met same. absurd (no_fault _ met c.unread.ensures same)) (refl, refl) c.in-Ok.ensures.count

pub returns-in-Err-clause-found : goal.returns-in-Err-clause-found
returns-in-Err-clause-found g c = λ asked given.
    let did = c.report_unopened.ensures in
    found_unopened g.E.Sink _ _ _ _ _ did.0 _ _ _ _ _ did.1 did.2 c.in-Err.ensures.count did.3
