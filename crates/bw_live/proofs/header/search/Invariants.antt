use Rattle.std.proofs.Common.{◌≡◌, ◌≤◌, ◌+◌, ◌-◌, ◌*◌, ◌^◌}
use Rattle.bw_model.specs.Limits.{most_chunks}
use Rattle.bw_live.specs.WaveHeaders.{search_from}
use Rattle.bw_live.proofs.header.search.Given as goal

abbrev pub invariant-loop-chunk : goal.invariant-loop-chunk
invariant-loop-chunk l = record {
  near : l.place ≤ 12 + l._chunk * (2 ^ 32 + 8);
  after : 12 ≤ l.place;
  goes_on : search_from (most_chunks - l._chunk) l.fn.bytes l.place ≡ search_from most_chunks l.fn.bytes 12;
}
