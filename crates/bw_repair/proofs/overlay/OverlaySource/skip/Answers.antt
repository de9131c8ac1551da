use Rattle.std.proofs.Common.{ap}
use Rattle.bw_repair.proofs.Overlays.{skip-left}
use Rattle.bw_repair.proofs.overlay.OverlaySource.skip.Goals as goal

pub returns-clause-ok : goal.returns-clause-ok
returns-clause-ok g c =
    let put = c.pass.ensures in
    skip-left c.args.self.now.ahead _ c.args.self.now.others.now _ _ _ _ _ _ c.in_ok-count.ensures.ok put.ahead
    put.others (ap g.R.Source.left put.inner)
