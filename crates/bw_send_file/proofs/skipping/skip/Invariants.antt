use Rattle.std.proofs.Common.{List}
use Rattle.bw_model.specs.Take.{Request}
use Rattle.bw_send_file.specs.SkippedRequests.{PassesFirst, SkipsFirst}
use Rattle.bw_send_file.proofs.skipping.skip.Given as goal

abbrev pub invariant-loop-skipped : goal.invariant-loop-skipped
invariant-loop-skipped g l = record {
  known : (requests : List Request) → g.X.Feed.left l.fn.feed requests → SkipsFirst l._skipped requests (g.X.Feed.left l.feed);
  passes : (given : List Request) × PassesFirst g.X.Feed l._skipped given l.fn.feed l.feed;
}
