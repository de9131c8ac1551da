use Rattle.std.proofs.Common.{◌≡◌, map, string_bytes, take}
use Rattle.bw_report.specs.FileLooks.{IsShown, files_there}
use Rattle.bw_report.proofs.files.inspect_files.Given as goal

abbrev pub invariant-loop-path : goal.invariant-loop-path
invariant-loop-path g l = record {
  files : g.F.RecordingFiles.file_at l.files ≡ g.F.RecordingFiles.file_at l.fn.files;
  stamps : g.F.RecordingFiles.stamp_at l.files ≡ g.F.RecordingFiles.stamp_at l.fn.files;
  shown : IsShown g.W.Sink g.E.Sink
      (files_there (g.F.RecordingFiles.file_at l.fn.files) (g.F.RecordingFiles.stamp_at l.fn.files))
      (map string_bytes (take l.path-index l.paths)) l.wanted l.worst (g.F.RecordingFiles.failures l.fn.files)
      (g.F.RecordingFiles.failures l.files) l.fn.out l.out l.fn.faults l.faults;
}
