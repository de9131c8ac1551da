use Rattle.bw_delivery.proofs.PlayForms.{by_machine, by_stop, counts_for, starts_for}
use Rattle.bw_delivery.proofs.rehearsal.play.Goals as goal

pub returns-in-Ok : goal.returns-in-Ok
returns-in-Ok c = λ w k is.
    by_stop c.args.limit w _ _ _ _ _ c.in-Happens.is (c.in-Ok.ensures c.args.limit w k is)

pub returns-in-Ok-stop : goal.returns-in-Ok-stop
returns-in-Ok-stop c = λ w k is.
    by_stop c.args.limit w _ _ _ _ _ c.in-Stop.is
    (by_machine c.args.limit w _ _ _ k (c.in-Ok-stop.ensures c.args.limit w is))

pub returns-in-Ok-start_again : goal.returns-in-Ok-start_again
returns-in-Ok-start_again c = λ w k is.
    by_stop c.args.limit w _ _ _ _ _ c.in-Start.is
    (by_machine c.args.limit w _ _ _ k
    (starts_for c.args.limit w _ _ _ _ (c.name.ensures w.sender k.sender) (c.in-Ok-start_again.ensures w is)))

pub returns-in-Ok-start_counting : goal.returns-in-Ok-start_counting
returns-in-Ok-start_counting c = λ w k is.
    by_stop c.args.limit w _ _ _ _ _ c.in-StartCounting.is
    (by_machine c.args.limit w _ _ _ k
    (counts_for c.args.limit w _ _ _ _ (c.name-in-StartCounting.ensures w.sender k.sender) (c.in-Ok-start_counting.ensures w is)))
