use Rattle.bw_args.proofs.Asked.{bad, ◌and_then◌}
use Rattle.bw_args.proofs.commands.sending.tries_given.Goals as goal

pub returns-in_default-clause-err : goal.returns-in_default-clause-err
returns-in_default-clause-err c = bad (λ good. c.in_default.ensures good.0 good.1)

pub returns-in_default-count_given-clause-err : goal.returns-in_default-count_given-clause-err
returns-in_default-count_given-clause-err c =
    (c.in-Ok.rounds, c.in-Ok.ensures) and_then bad (λ good. c.in_default-count_given.ensures good.0 good.1)

pub returns-in_default-count_given-2-clause-err : goal.returns-in_default-count_given-2-clause-err
returns-in_default-count_given-2-clause-err c =
    (c.in-Ok.rounds, c.in-Ok.ensures) and_then (c.in-Ok-count_given.timeout, c.in-Ok-count_given.ensures)
    and_then bad (λ good. c.in_default-count_given-2.ensures good.0 good.1)

pub returns-in_default-count_given-3-clause-err : goal.returns-in_default-count_given-3-clause-err
returns-in_default-count_given-3-clause-err c =
    (c.in-Ok.rounds, c.in-Ok.ensures) and_then (c.in-Ok-count_given.timeout, c.in-Ok-count_given.ensures)
    and_then (c.in-Ok-count_given-2.fruitless, c.in-Ok-count_given-2.ensures)
    and_then bad (λ good. c.in_default-count_given-3.ensures good.0 good.1)
