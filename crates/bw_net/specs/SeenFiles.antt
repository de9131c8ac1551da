-- What is seen of this machine's files and of its clock.
use Rattle.std.specs.Prelude.{ℕ, Bool, List, string_bytes}
use Rattle.bw_net.specs.declared.host.Host.{Host}
use Rattle.bw_net.specs.declared.recordings.HostRecordings.{HostRecordings}
use Rattle.bw_net.specs.declared.recordings.StampedFile.{StampedFile}
use Rattle.bw_net.specs.declared.followed.FollowedFile.{FollowedFile}
use Rattle.bw_net.specs.declared.followed_wave.FollowedWave.{FollowedWave}
use Rattle.bw_net.specs.declared.growing.GrowingInput.{GrowingInput}
use Rattle.bw_net.specs.declared.growing.GrowingInput.TheVariants.{Bytes, Wave}
use Rattle.bw_net.specs.declared.spool_file.SpoolFile.{SpoolFile}
use Rattle.bw_net.specs.declared.receipts.HostReceipts.{HostReceipts}
use Rattle.bw_net.specs.declared.receipts.ReceiptFile.{ReceiptFile}
use Rattle.bw_net.specs.declared.states.HostStates.{HostStates}
use Rattle.bw_net.specs.declared.states.StateFile.{StateFile}
use Rattle.bw_net.specs.declared.pause.ClockPause.{ClockPause}
use Rattle.bw_net.specs.declared.stopwatch.ClockStopwatch.{ClockStopwatch}

-- how many calls of the system failed, as the machine's files counted them
abbrev pub host_failures : Host → ℕ
host_failures s = s.failures

-- the same, as its recordings did
abbrev pub recordings_failures : HostRecordings → ℕ
recordings_failures s = s.failures

-- as a file did that is looked at again
abbrev pub stamped_failures : StampedFile → ℕ
stamped_failures s = s.failures

-- as a file did that is followed
abbrev pub followed_failures : {R : Type 0} → FollowedFile R → ℕ
followed_failures f = f.failures

-- whether nothing more is written to it
abbrev pub followed_has_ended : {R : Type 0} → FollowedFile R → Bool
followed_has_ended f = f.has_ended

-- the reader that it is read by
abbrev pub followed_reader : {R : Type 0} → FollowedFile R → R
followed_reader f = f.file

-- the same of a WAVE file
abbrev pub wave_failures : FollowedWave → ℕ
wave_failures f = f.failures

abbrev pub wave_has_ended : FollowedWave → Bool
wave_has_ended f = f.has_ended

-- and of either
abbrev pub growing_failures : GrowingInput → ℕ
growing_failures (Bytes file) = followed_failures file
growing_failures (Wave file) = wave_failures file

abbrev pub growing_has_ended : GrowingInput → Bool
growing_has_ended (Bytes file) = followed_has_ended file
growing_has_ended (Wave file) = wave_has_ended file

-- as a spool's file did
abbrev pub spool_failures : {W : Type 0} → SpoolFile W → ℕ
spool_failures f = f.failures

-- the writer that it writes to
abbrev pub spool_writer : {W : Type 0} → SpoolFile W → W
spool_writer f = f.file

-- as the files of states did
abbrev pub states_failures : HostStates → ℕ
states_failures s = s.failures

-- as one of them did
abbrev pub state_failures : StateFile → ℕ
state_failures f = f.failures

-- as the files of receipts did
abbrev pub receipts_failures : HostReceipts → ℕ
receipts_failures s = s.failures

-- the path of one of them that was begun
abbrev pub opened_receipts_path : ReceiptFile → List ℕ
opened_receipts_path f = string_bytes f.path

-- the runtime by whose clock is waited
abbrev pub pausing_runtime : {R : Type 0} → ClockPause R → R
pausing_runtime p = p.rt

-- the milliseconds that had passed when it was last looked at
abbrev pub stopwatch_time : {R : Type 0} → ClockStopwatch R → ℕ
stopwatch_time s = s.passed
