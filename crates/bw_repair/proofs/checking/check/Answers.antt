use Rattle.std.proofs.Common.{◌∙◌, ap}
use Rattle.bw_repair.proofs.SizeLaws.{faults_as, if_err, if_ok, reads_as, sizes_overlaid}
use Rattle.bw_repair.proofs.checking.check.Goals as goal

pub returns-clause-ok : goal.returns-clause-ok
returns-clause-ok g c = if_ok c.inspect.result _ _ (λ r gives b e h.
    reads_as _ _ r _ (gives _ (c.with_bytes-whole.ensures b e)) (rw (c.to_le_bytes-form.ensures, c.to_le_bytes-data.ensures)
    (sizes_overlaid b c.args.place c.args.sizes c.requires.following h))) c.inspect.ensures.ok

pub returns-clause-err : goal.returns-clause-err
returns-clause-err g c = if_err c.inspect.result _ _ (λ f gives b e h.
    faults_as _ _ f _ (gives _ (c.with_bytes-whole.ensures b e)) (rw (c.to_le_bytes-form.ensures, c.to_le_bytes-data.ensures)
    (sizes_overlaid b c.args.place c.args.sizes c.requires.following h))) c.inspect.ensures.err
