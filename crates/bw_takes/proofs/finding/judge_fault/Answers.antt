use Rattle.std.proofs.Common.{ap, subst, sym}
use Rattle.bw_journal.specs.Faults.{fault_meaning}
use Rattle.bw_journal.specs.Replays.{NotBegun}
use Rattle.bw_recovery.proofs.ListForms.{if_ok}
use Rattle.bw_takes.specs.TakeFindings.{IsFoundBeside}
use Rattle.bw_takes.proofs.finding.judge_fault.Goals as goal

pub returns-in-NotBegun-clause-found : goal.returns-in-NotBegun-clause-found
returns-in-NotBegun-clause-found g c honest = if_ok c.judge_unbegun.result _ _
    (λ found h limit reported is. subst (λ r. IsFoundBeside limit r
    (g.D.Disk.contents c.args.disk.now c.args.wave.now) found)
    (sym (is NotBegun (ap fault_meaning c.in-NotBegun.is))) (h limit))
    (c.judge_unbegun.ensures.found honest)
