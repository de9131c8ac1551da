use Rattle.bw_plan.proofs.ExamplesOfPlans.{rows}
use Rattle.bw_plan.proofs.examples_of_plans.Goals as goal

pub returns : goal.returns
returns c = search rows
