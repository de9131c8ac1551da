use Rattle.bw_plan.proofs.PlanRuns.{runs_give_plans}
use Rattle.bw_plan.proofs.WholeRecordings.{recordings_are_whole}
use Rattle.bw_plan.proofs.PcmRecordings.{pcm_recordings_are_whole}
use Rattle.bw_plan.proofs.PlanCounts.{plans_have_their_count}
use Rattle.bw_plan.proofs.PlanLaws.{plans_make_takes}
use Rattle.bw_plan.proofs.law_plan.Goals as goal

pub returns : goal.returns
returns c = record {
  takes = plans_make_takes;
  count = plans_have_their_count;
  whole = recordings_are_whole;
  pcm = pcm_recordings_are_whole;
  runs = runs_give_plans;
}
