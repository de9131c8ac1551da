use Rattle.std.proofs.lemmas.Result.{IfErr-weaker}
use Rattle.bw_repair.proofs.Fills.{unfilled}
use Rattle.bw_repair.proofs.conversions.making.make_file.Goals as goal

pub returns-in-Ok-Some-clause-err : goal.returns-in-Ok-Some-clause-err
returns-in-Ok-Some-clause-err g c =
    IfErr-weaker c.fill.result _ _ (λ f stops w e.
    unfilled g.D.Disk (g.D.Disk.path_of c.in-Ok-Some.file) c.args.to.now w c.args.id f _ _ _
    c.in-Ok-Some.ensures.honest (rw c.in-Ok-Some.field-0-is at c.in-Ok-Some.ensures.path)
    (rw c.in-Ok-Some.field-0-is at c.in-Ok-Some.ensures.made)
    (stops w e)) c.fill.ensures.err
