use Rattle.bw_args.proofs.Asked.{bad, ◌and_then◌}
use Rattle.bw_args.proofs.commands.serving.recorders_given.Goals as goal

pub returns-in_default-clause-err : goal.returns-in_default-clause-err
returns-in_default-clause-err c = bad (λ good. c.in_default.ensures good.0 good.1)

pub returns-in_default-count_given-clause-err : goal.returns-in_default-count_given-clause-err
returns-in_default-count_given-clause-err c =
    (c.in-Ok.timeout, c.in-Ok.ensures) and_then bad (λ good. c.in_default-count_given.ensures good.0 good.1)

pub returns-in_default-count_given-2-clause-err : goal.returns-in_default-count_given-2-clause-err
returns-in_default-count_given-2-clause-err c =
    (c.in-Ok.timeout, c.in-Ok.ensures) and_then (c.in-Ok-count_given.most, c.in-Ok-count_given.ensures)
    and_then bad (λ good. c.in_default-count_given-2.ensures good.0 good.1)
