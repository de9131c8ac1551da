use Rattle.std.proofs.Common.{◌≡◌, ◌≤◌, ◌-◌, ℕ, List, Some, true, length}
use Rattle.bw_send_file.specs.FollowedReads.{ReadsAfter}
use Rattle.bw_send_file.proofs.followed_reading.read_on.Given as goal

abbrev pub invariant-loop-held : goal.invariant-loop-held
invariant-loop-held g l = record {
  within : l.held ≤ length l.room;
  room : length l.room ≡ length l.fn.room;
  count : g.F.Followed.failures l.file ≡ g.F.Followed.failures l.fn.file;
  stays : g.F.Followed.is_complete l.fn.file ≡ true → g.F.Followed.is_complete l.file ≡ true;
  read : (xs : List ℕ) → g.F.Followed.to_come l.fn.file ≡ Some xs →
      ReadsAfter l.fn.room l.fn.held xs l.room l.held (g.F.Followed.to_come l.file);
}

abbrev pub decreases-loop-held : goal.decreases-loop-held
decreases-loop-held g l = length l.initial.room - l.held
