-- What the steps of a plan's giver mean.
use Rattle.bw_plan.specs.Progress.{Stage, AtOpen, AtField, AtBlock, AtMark, AtClose, AtEnd, AtFault}
use Rattle.bw_plan.specs.declared.plan.Step.{Step}
use Rattle.bw_plan.specs.declared.plan.Step.TheVariants.{Open, Field, Block, Mark, Close, End, Fault}

-- which request is the next
abbrev pub stage_of : Step → Stage
stage_of Open = AtOpen
stage_of (Field tag) = AtField tag
stage_of Block = AtBlock
stage_of (Mark id frame next) = AtMark id frame next
stage_of Close = AtClose
stage_of End = AtEnd
stage_of (Fault f) = AtFault f
