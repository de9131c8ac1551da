use Rattle.std.proofs.Common.{◌≡◌, ◌*◌, ◌+◌, ◌-◌, ◌≤◌, ℕ, List, Some, IsTrue, length, drop}
use Rattle.bw_disk.specs.DiskSteps.{StaysWhole}
use Rattle.bw_model.specs.Limits.{longest_block, longest_body}
use Rattle.bw_take_files.specs.BlockDigests.{KeepsBlockDigests}
use Rattle.bw_take_files.specs.TakeSamples.{entries_within, entries_of, first_changed}
use Rattle.bw_take_files.proofs.samples.first_changed.Given as goal

-- the samples of the numbers so far are there
abbrev pub invariant-loop-step : goal.invariant-loop-step
invariant-loop-step g l = record {
  failures : g.D.Disk.failures l.disk ≡ g.D.Disk.failures l.fn.disk;
  disk : StaysWhole g.D.Disk l.fn.disk l.disk;
  path : g.D.Disk.path_of l.file ≡ g.D.Disk.path_of l.fn.file;
  room : length l.room ≡ 8 * longest_body;
  within : l.used ≤ length l.journal.bytes.now;
  near : l.offset ≤ 4786 + longest_block * l.step;
  ahead : IsTrue (g.D.Disk.honest l.fn.disk) → (found : List ℕ) →
      g.D.Disk.contents l.fn.disk (g.D.Disk.path_of l.fn.file) ≡ Some found →
      KeepsBlockDigests l.journal.name.now found l.ahead.known;
  known : IsTrue (g.D.Disk.honest l.fn.disk) → (found : List ℕ) →
      g.D.Disk.contents l.fn.disk (g.D.Disk.path_of l.fn.file) ≡ Some found →
      first_changed l.journal.name.now found 0 l.start (entries_of l.journal.bytes.now)
      ≡ first_changed l.journal.name.now found l.step l.offset
      (entries_within (length l.journal.bytes.now - l.step) (drop l.used l.journal.bytes.now));
}
