-- What settings mean.
use Rattle.bw_plan.specs.Recordings.{Setting, Field, History}
use Rattle.bw_plan.specs.declared.setting.SettingRef.{SettingRef}
use Rattle.bw_plan.specs.declared.setting.SettingRef.TheVariants.{Field as FieldRef}
use Rattle.bw_plan.specs.declared.setting.SettingRef.TheVariants.{History as HistoryRef}

-- what a setting says
abbrev pub setting_meaning : SettingRef → Setting
setting_meaning (FieldRef tag value) = Field tag value.now
setting_meaning (HistoryRef bytes) = History bytes.now
