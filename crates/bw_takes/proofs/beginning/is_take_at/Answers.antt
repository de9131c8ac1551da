use Rattle.std.proofs.Common.{◌∙◌, ap}
use Rattle.bw_recovery.specs.Names.{begins_take}
use Rattle.bw_takes.proofs.FindingLemmas.{front_shows}
use Rattle.bw_takes.proofs.beginning.is_take_at.Goals as goal

pub returns-in-Some-clause-value : goal.returns-in-Some-clause-value
returns-in-Some-clause-value g c honest =
    c.is_take.ensures ∙ ap begins_take c.deref.ensures.value
    ∙ front_shows _ (g.D.Disk.contents c.args.disk.now c.args.path.now) c.in-Some.read
    (rw c.in-Some.is at (c.in_ok-read.ensures.read honest))
