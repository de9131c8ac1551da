use Rattle.std.proofs.Common.{◌≡◌}
use Rattle.bw_picture.specs.Peaks.{frame_level, greatest_of, least_of}
use Rattle.bw_picture.proofs.peak.Peak.widen.Given as goal

abbrev pub invariant-loop-i : goal.invariant-loop-i
invariant-loop-i l = record {
  low : l.self.low ≡ least_of (frame_level l.width l.frames l.align l.at) l.fn.self.low l.i;
  high : l.self.high ≡ greatest_of (frame_level l.width l.frames l.align l.at) l.fn.self.high l.i;
}
