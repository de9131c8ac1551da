-- What owned settings mean.
use Rattle.bw_plan.specs.Recordings.{Setting, Field, History}
use Rattle.bw_plan.specs.declared.setting.Owned.{Owned}
use Rattle.bw_plan.specs.declared.setting.Owned.TheVariants.{Field as OwnedField}
use Rattle.bw_plan.specs.declared.setting.Owned.TheVariants.{History as OwnedHistory}

-- what a setting that owns its bytes says
abbrev pub owned_setting : Owned → Setting
owned_setting (OwnedField tag value) = Field tag value.items
owned_setting (OwnedHistory bytes) = History bytes.items
