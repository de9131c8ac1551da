use Rattle.std.proofs.Common.{refl, ap, sym, ◌∙◌, None}
use Rattle.bw_report.specs.declared.found.Found.TheVariants.{Read, Faulty}
use Rattle.bw_report.proofs.LookLemmas.{found_again, found_opened, found_unopened}
use Rattle.bw_report.proofs.files.look_over.Goals as goal

pub returns-then-digest-clause-found : goal.returns-then-digest-clause-found
returns-then-digest-clause-found g c =
    found_again g.E.Sink _ _ c.args.digest _ _ _ _ _ _ _ _ c.in-Ok.ensures.files c.in-Ok.ensures.count
    c.if-digest.true
    (c.look_again.ensures.found (λ b e. (
      _,
      c.in-Ok-inspect.ensures.ok b (c.in-Ok.ensures.ok b (ap (λ f. f c.args.path.now) (sym c.in-Ok.ensures.files) ∙ e)),
    )))

pub returns-in-Ok-inspect-clause-found : goal.returns-in-Ok-inspect-clause-found
returns-in-Ok-inspect-clause-found g c =
    found_opened g.E.Sink _ _ _ c.args.path.now (Read c.in-Ok-inspect.report _ None) _ _ _ (λ b e.
    let gives = c.in-Ok-inspect.ensures.ok b (c.in-Ok.ensures.ok b e) in
    ((record { reading_is = gives.reading_is; is = gives.reports }, rw c.if-digest.false refl), refl))
    (refl, refl) c.in-Ok.ensures.count

pub returns-in-Ok-clause-found : goal.returns-in-Ok-clause-found
returns-in-Ok-clause-found g c =
    found_opened g.E.Sink _ _ _ c.args.path.now (Faulty c.in-Err-inspect.fault) _ _ _
    (λ b e met same. (c.in-Err-inspect.ensures.err b (c.in-Ok.ensures.ok b e)).fault met same)
    (refl, refl) c.in-Ok.ensures.count

pub returns-clause-found : goal.returns-clause-found
returns-clause-found g c =
    let did = c.report_unopened.ensures in
    found_unopened g.E.Sink _ _ _ _ _ did.0 _ _ _ _ _ did.1 did.2 c.in-Err.ensures.count did.3
