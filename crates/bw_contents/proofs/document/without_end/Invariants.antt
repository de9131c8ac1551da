use Rattle.std.proofs.Common.{◌≡◌, ◌≤◌, take, reverse}
use Rattle.bw_contents.specs.Markup.{after_white_space}
use Rattle.bw_contents.proofs.document.without_end.Given as goal

abbrev pub invariant-loop-place : goal.invariant-loop-place
invariant-loop-place l = record {
  within : l.len ≤ l.place;
  kept : take l.len l.bytes ≡ reverse (after_white_space (reverse (take l.place l.bytes)));
}
