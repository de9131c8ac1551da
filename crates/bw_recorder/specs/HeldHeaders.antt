-- What a header in memory says of a recording.
use Rattle.std.specs.Prelude.{◌≡◌, ℕ, List, Ok}
use Rattle.bw_plan.specs.Recordings.{Options, Recording, recording_of}
use Rattle.bw_recorder.specs.FileReports.{warnings_in}
use Rattle.bw_recorder.specs.WarningTexts.{warning_lines}
use Rattle.bw_recorder.specs.declared.held_header.HeldHeader.{HeldHeader}

-- the bytes have a recording, of which this is all but the samples, and what it loses of them
pub record IsHeaderOf (b : List ℕ) (o : Options) (h : HeldHeader) : Type 0 where
  pub recording : Recording
  pub is : recording_of b o ≡ Ok recording
  pub outline : recording.outline ≡ h.outline
  pub says : h.warnings.items ≡ warning_lines (warnings_in b h.outline)
