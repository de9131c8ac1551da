use Rattle.std.proofs.Common.{List}
use Rattle.bw_model.specs.Take.{Request}
use Rattle.bw_send_file.proofs.ResumedFeeds.{OpensAfter}
use Rattle.bw_send_file.proofs.SkipSteps.{GivesBlockless}
use Rattle.bw_send_file.proofs.resumed_opening.opening_of.Given as goal

abbrev pub invariant-loop-number : goal.invariant-loop-number
invariant-loop-number g l = record {
  known : (requests : List Request) → g.X.Feed.left l.fn.feed requests →
      OpensAfter l.name l.frames.items l.number requests (g.X.Feed.left l.feed);
  gives : GivesBlockless g.X.Feed l.number l.fn.feed l.feed;
}
