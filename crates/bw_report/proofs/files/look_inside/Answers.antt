use Rattle.std.proofs.Common.{◌∙◌, ap, refl, sym, None}
use Rattle.bw_report.specs.declared.found.Found.TheVariants.{Read}
use Rattle.bw_report.specs.FileLooks.{shows_contents}
use Rattle.bw_report.proofs.LookLemmas.{chunks_read, found_after, found_as_wanted, found_opened, found_unopened, some_read}
use Rattle.bw_report.proofs.files.look_inside.Goals as goal

pub returns-then-has_length-clause-found : goal.returns-then-has_length-clause-found
returns-then-has_length-clause-found g c = λ wanted shown given.
    found_as_wanted g.E.Sink _ _ wanted _ _ _ _ _ _ _
    (chunks_read _ _ _ _ _ shown c.in-Ok.ensures.ok c.has_length.ensures c.if-has_length.true)
    (found_after g.E.Sink _ _ wanted.digest _ c.args.path.now _ _ _ _ _ _ c.in-Ok.ensures.files
    c.in-Ok.ensures.count (c.look_within.ensures.found wanted.digest
    (λ b e. given b (ap (λ f. f c.args.path.now) (sym c.in-Ok.ensures.files) ∙ e))))

pub returns-else-has_length-clause-found : goal.returns-else-has_length-clause-found
returns-else-has_length-clause-found g c = λ wanted shown given.
    found_as_wanted g.E.Sink _ _ wanted _ _ _ _ _ _ _
    (chunks_read _ _ _ _ _ shown c.in-Ok.ensures.ok c.has_length.ensures c.if-has_length.false)
    (found_opened g.E.Sink _ wanted.digest _ c.args.path.now (Read c.args.report c.args.digest None) _ _ _
    (λ b e. (given b e, refl)) (refl, refl) c.in-Ok.ensures.count)

pub returns-in-Err-clause-found : goal.returns-in-Err-clause-found
returns-in-Err-clause-found g c = λ wanted shown given.
    let did = c.report_unopened.ensures in
    let some = some_read (shows_contents wanted.style)
    (g.F.RecordingFiles.stamp_at c.args.files.now c.args.path.now) in
    found_as_wanted g.E.Sink _ _ wanted some.0 _ _ _ _ _ _ some.1
    (found_unopened g.E.Sink _ wanted.digest _ _ _ did.0 _ _ _ _ _ did.1 did.2 c.in-Err.ensures.count did.3)
