use Rattle.std.proofs.Common.{rules}
use Rattle.bw_plan.proofs.PlanStarts.{whole_plan}
use Rattle.bw_plan.proofs.plan.Plan.new.Goals as goal

pub returns-clause-plan : goal.returns-clause-plan
returns-clause-plan c = λ b long.
    whole_plan b c.args.outline c.in_ok-samples.samples c.args.frames c.args.place (search rules) (search rules)
    (search rules) long
