use Rattle.std.proofs.Common.{◌≡◌, [], drop, map}
use Rattle.std.specs.Prelude.{IsTrue, string_bytes}
use Rattle.bw_plan.specs.AllowedSettings.{are_settings}
use Rattle.bw_recorder.specs.SettingLists.{settings_after}
use Rattle.bw_recorder.proofs.settings.settings_of.Given as goal

abbrev pub invariant-loop-i : goal.invariant-loop-i
invariant-loop-i l =
    (settings_after l.settings.items (map string_bytes (drop l._i l.texts)) ≡ settings_after [] (map string_bytes l.texts))
    × IsTrue (are_settings l.settings.items)
