use Rattle.std.proofs.Common.{sym, ap, subst, ◌∙◌, ◌+◌, ℕ}
use Rattle.bw_sender.specs.Offers.{fault_of}
use Rattle.bw_sender.specs.Senders.{IsSender}
use Rattle.bw_commands.proofs.Staging.{copy_offered, copy_refused, one_offered, on_ok}
use Rattle.bw_commands.proofs.simulation.offer_copy.Goals as goal

pub returns-in-Ok : goal.returns-in-Ok
returns-in-Ok c = λ s is counted.
    let x = c.in-Ok.ensures.ok s is in
    copy_offered s c.in_ok-copy.copy _ _ _ (c.in_ok-copy.ensures.ok ∙ c.as_ref.ensures.same) x.2
    (ap (λ (n : ℕ). n + 1) (c.from.ensures ∙ x.0) ∙ sym (one_offered s c.in_ok-copy.copy x.1))

pub returns-in-Err : goal.returns-in-Err
returns-in-Err c = λ s is counted.
    on_ok c.unless_memory.result c.unless_memory.ensures.ok
    (λ refused. copy_refused s c.in_ok-copy.copy _ (fault_of c.in-Err.error) _ _
    (c.in_ok-copy.ensures.ok ∙ c.as_ref.ensures.same) (c.in-Err.ensures.err s is) refused
    (subst (IsSender s) (sym c.in-Err.ensures.unchanged) is) counted)
