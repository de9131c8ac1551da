-- No fault ends a command with the status 0.
use Rattle.std.proofs.Common.{◌≡◌}
use Rattle.std.specs.declared.io.ErrorKind.{ErrorKind}
use Rattle.std.specs.declared.io.ErrorKind.TheVariants as errors
use Rattle.bw_inspect.specs.declared.fault.InspectKind.{InspectKind}
use Rattle.bw_inspect.specs.declared.fault.InspectKind.TheVariants as kinds
use Rattle.bw_console.specs.FailedOpenings.{exit_unopened}
use Rattle.bw_console.specs.declared.exit.Exit.TheVariants as exits
use Rattle.bw_plan.specs.declared.fault.RecordingKind.{RecordingKind}
use Rattle.bw_plan.specs.declared.fault.RecordingKind.TheVariants as recordings
use Rattle.bw_recorder.specs.Openings.{exit_unread, exit_on_kind}

pub refused_ends : exits.Refused ≡ exits.Done → ⊥
refused_ends e = cc

pub device_ends : exits.Device ≡ exits.Done → ⊥
device_ends e = cc

pub memory_ends : exits.Memory ≡ exits.Done → ⊥
memory_ends e = cc

pub usage_ends : exits.Usage ≡ exits.Done → ⊥
usage_ends e = cc

pub unread_ends : (k : InspectKind) → exit_unread k ≡ exits.Done → ⊥
unread_ends kinds.Read e = device_ends e
unread_ends kinds.Memory e = memory_ends e
unread_ends _ e = refused_ends e

pub kind_ends : (k : RecordingKind) → exit_on_kind k ≡ exits.Done → ⊥
kind_ends (recordings.Unread k) e = unread_ends k e
kind_ends _ e = refused_ends e

pub unopened_ends : (k : ErrorKind) → exit_unopened k ≡ exits.Done → ⊥
unopened_ends errors.OutOfMemory e = memory_ends e
unopened_ends _ e = device_ends e
