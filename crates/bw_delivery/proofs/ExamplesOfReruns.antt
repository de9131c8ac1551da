-- The worked rows compute: a sender that is started again.
use Rattle.std.proofs.Common.{refl}
use Rattle.bw_model.proofs.Computing.{computing}
use Rattle.bw_delivery.specs.Reruns.{rerun_step}
use Rattle.bw_delivery.specs.ExamplesOfReruns.{KilledRunExample, SecondRunExample, LateReplyExample}

pub killed : KilledRunExample
unfolding computing rerun_step
killed = refl

pub second : SecondRunExample
unfolding computing rerun_step
second = (refl, refl, refl)

pub late : LateReplyExample
unfolding computing rerun_step
late = (refl, refl)
