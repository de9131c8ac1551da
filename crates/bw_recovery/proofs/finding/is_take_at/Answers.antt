use Rattle.std.proofs.Common.{◌∙◌, ap}
use Rattle.bw_recovery.specs.Names.{begins_take}
use Rattle.bw_recovery.proofs.Refusals.{found_some}
use Rattle.bw_recovery.proofs.finding.is_take_at.Goals as goal

pub returns-in-Some-clause-value : goal.returns-in-Some-clause-value
returns-in-Some-clause-value g c honest =
    c.is_take.ensures ∙ ap begins_take c.deref.ensures.value
    ∙ found_some c.in-Some.front.items (g.D.Disk.contents c.args.disk.now c.args.path.now)
    (rw c.in-Some.is at (c.in_ok-front.ensures.read honest))
