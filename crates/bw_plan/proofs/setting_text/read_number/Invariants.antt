use Rattle.std.proofs.Common.{◌≡◌, take}
use Rattle.bw_plan.specs.SettingTexts.{number_of}
use Rattle.bw_plan.proofs.setting_text.read_number.Given as goal

abbrev pub invariant-loop-c : goal.invariant-loop-c
invariant-loop-c l = l.number ≡ number_of (take l.c-index l.digits)
