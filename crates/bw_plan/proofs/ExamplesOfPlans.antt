-- The worked rows compute.
use Rattle.std.proofs.Common.{refl}
use Rattle.bw_plan.proofs.Computing.{computing}
use Rattle.bw_plan.specs.ExamplesOfPlans.{SmallPlanExample, LargeBlockPlanExample, CuePlanExample}
use Rattle.bw_plan.specs.ExamplesOfPlans.{ExtensiblePlanExample, TextPlanExample, DatePlanExample, CleanedTextExample}
use Rattle.bw_plan.specs.ExamplesOfPlans.{TimePlanExample}
use Rattle.bw_plan.specs.ExamplesOfPlans.{SettingsPlanExample, RefusedPlanExample, SettingTextPlanExample}
use Rattle.bw_plan.specs.ExamplesOfPlans.{BadSettingPlanExample, PcmPlanExample, RefusedPcmExample}

pub small : SmallPlanExample
unfolding computing
small = refl

pub large_block : LargeBlockPlanExample
unfolding computing
large_block = refl

pub cue : CuePlanExample
unfolding computing
cue = refl

pub extensible : ExtensiblePlanExample
unfolding computing
extensible = refl

pub text : TextPlanExample
unfolding computing
text = (refl, refl)

pub cleaned : CleanedTextExample
unfolding computing
cleaned = (refl, refl, refl, refl, refl)

pub date : DatePlanExample
unfolding computing
date = (refl, refl)

pub time : TimePlanExample
unfolding computing
time = refl

pub settings : SettingsPlanExample
unfolding computing
settings = refl

pub refused : RefusedPlanExample
unfolding computing
refused = (refl, refl, refl, refl, refl, refl, refl, refl, refl, refl, refl, refl, refl)

pub setting_text : SettingTextPlanExample
unfolding computing
setting_text = (refl, refl, refl, refl, refl, refl)

pub bad_setting : BadSettingPlanExample
unfolding computing
bad_setting = (refl, refl, refl, refl, refl, refl)

pub pcm : PcmPlanExample
unfolding computing
pcm = refl

pub refused_pcm : RefusedPcmExample
unfolding computing
refused_pcm = (refl, refl, refl, refl)

-- all of them
pub ruleset rows = (
  small,
  large_block,
  cue,
  extensible,
  text,
  cleaned,
  date,
  time,
  settings,
  refused,
  setting_text,
  bad_setting,
  pcm,
  refused_pcm,
)
