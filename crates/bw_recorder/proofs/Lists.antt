-- Lists that are gone through.
use Rattle.std.proofs.Common.{ℕ, List, map}
use Rattle.std.specs.Prelude.{flat_map}
use Rattle.bw_plan.specs.declared.warning.Warning.{Warning}
use Rattle.bw_plan.specs.ReportedWarnings.{warning_meaning}
use Rattle.bw_recorder.specs.WarningTexts.{warning_line}

-- the lines of these
abbrev pub lines_for : List Warning → List ℕ
lines_for ws = flat_map warning_line (map warning_meaning ws)
