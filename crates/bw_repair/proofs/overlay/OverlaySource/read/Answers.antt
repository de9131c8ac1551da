use Rattle.std.proofs.Common.{rules, ap}
use Rattle.bw_repair.proofs.Overlays.{read-left}
use Rattle.bw_repair.proofs.overlay.OverlaySource.read.Goals as goal

pub returns-clause-ok : goal.returns-clause-ok
returns-clause-ok g c =
    let put = c.replace_in.ensures in
    read-left c.args.self.now.ahead _ c.args.self.now.others.now _ _ _ _ _ _ _ _ _ (search rules)
    c.in_ok-count.ensures.ok (search rules) put.piece put.ahead put.others (ap g.R.Source.left put.inner)
