use Rattle.std.proofs.Common.{◌≡◌, ◌<◌, ◌≤◌, ◌*◌, ℕ, get_or}
use Rattle.bw_picture.specs.Levels.{bytes_of}
use Rattle.bw_picture.specs.Peaks.{frame_level, greatest_of, least_of}
use Rattle.bw_picture.proofs.channels.widen_all.Given as goal

abbrev pub invariant-loop-c : goal.invariant-loop-c
invariant-loop-c l = record {
  lows : (k : ℕ) → k < l.c → get_or l.lows k 0 ≡
      least_of (frame_level l.width l.frames l.align (k * bytes_of l.width)) (get_or l.fn.lows k 0) l.count;
  highs : (k : ℕ) → k < l.c → get_or l.highs k 0 ≡
      greatest_of (frame_level l.width l.frames l.align (k * bytes_of l.width)) (get_or l.fn.highs k 0) l.count;
  later_lows : (k : ℕ) → l.c ≤ k → get_or l.lows k 0 ≡ get_or l.fn.lows k 0;
  later_highs : (k : ℕ) → l.c ≤ k → get_or l.highs k 0 ≡ get_or l.fn.highs k 0;
}
