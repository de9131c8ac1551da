use Rattle.std.proofs.Common.{refl, ap, Some, None}
use Rattle.bw_report.specs.declared.found.Found.TheVariants.{Read, Faulty}
use Rattle.bw_report.proofs.LookLemmas.{found_opened, found_unopened, no_bytes_fault}
use Rattle.bw_report.proofs.files.look_again.Goals as goal

pub returns-in-Ok-report_digest-clause-found : goal.returns-in-Ok-report_digest-clause-found
returns-in-Ok-report_digest-clause-found g c = λ given.
    found_opened g.E.Sink _ _ _ c.args.path.now
    (Read c.args.report (Some c.in-Ok-report_digest.digest) None) _ _ _ (λ b e.
    let was = (given b e).1 in (
      (
        record { reading_is = was.reading_is; is = was.reports },
        ap Some (c.in-Ok-report_digest.ensures.ok b (c.in-Ok.ensures.ok b e)),
      ),
      refl,
    )) (refl, refl) c.in-Ok.ensures.count

pub returns-in-Err-report_digest-clause-found : goal.returns-in-Err-report_digest-clause-found
returns-in-Err-report_digest-clause-found g c = λ given.
    found_opened g.E.Sink _ _ _ c.args.path.now (Faulty c.in-Err-report_digest.fault) _ _ _
    (λ b e met same. absurd (no_bytes_fault _ met c.in-Err-report_digest.ensures.err same))
    (refl, refl) c.in-Ok.ensures.count

pub returns-in-Err-clause-found : goal.returns-in-Err-clause-found
returns-in-Err-clause-found g c = λ given.
    let did = c.report_unopened.ensures in
    found_unopened g.E.Sink _ _ _ _ _ did.0 _ _ _ _ _ did.1 did.2 c.in-Err.ensures.count did.3
