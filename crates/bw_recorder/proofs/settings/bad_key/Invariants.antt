use Rattle.std.proofs.Common.{◌≡◌, drop, map}
use Rattle.std.specs.Prelude.{string_bytes}
use Rattle.bw_recorder.specs.SettingLists.{first_bad_key}
use Rattle.bw_recorder.proofs.settings.bad_key.Given as goal

abbrev pub invariant-loop-i : goal.invariant-loop-i
invariant-loop-i l =
    first_bad_key (map string_bytes (drop l._i l.texts)) ≡ first_bad_key (map string_bytes l.texts)
