-- What warnings mean.
use Rattle.std.specs.Prelude.{List, map}
use Rattle.bw_plan.specs.Warnings as warnings
use Rattle.bw_plan.specs.declared.warning.Warning.{Warning}
use Rattle.bw_plan.specs.declared.warning.Warning.TheVariants.{FieldCleaned, FieldLeftOut, HistoryCleaned}
use Rattle.bw_plan.specs.declared.warning.Warning.TheVariants.{CuesLeftOut, MaskLeftOut, ChunkLeftOut}

-- what a warning says
abbrev pub warning_meaning : Warning → warnings.Warning
warning_meaning (FieldCleaned tag before after) = warnings.FieldCleaned tag before.items after.items
warning_meaning (FieldLeftOut tag) = warnings.FieldLeftOut tag
warning_meaning (HistoryCleaned before after) = warnings.HistoryCleaned before.items after.items
warning_meaning (CuesLeftOut count) = warnings.CuesLeftOut count
warning_meaning MaskLeftOut = warnings.MaskLeftOut
warning_meaning (ChunkLeftOut chunk) = warnings.ChunkLeftOut chunk

-- .. all of them
abbrev pub warning_meanings : List Warning → List warnings.Warning
warning_meanings ws = map warning_meaning ws
