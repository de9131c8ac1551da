use Rattle.std.proofs.lemmas.Result.{err_from_is_err_and}
use Rattle.bw_disk.proofs.Cuts.{uncut}
use Rattle.bw_disk.proofs.mortal_volume.MortalDiskVolume.cut.Goals as goal

pub returns-in_err-live-clause-failed : goal.returns-in_err-live-clause-failed
returns-in_err-live-clause-failed g c =
    let answer = err_from_is_err_and c.from_residual.result c.from_residual.ensures.1 in
    λ honest.
    rw (answer.1, c.in_err-live.ensures.failed.inner)
    (uncut (g.D.Disk.contents c.args.self.now.inner (g.D.Disk.path_of c.args.file.now)) c.args.len)
