-- What is seen of the feed of a recording's file.
use Rattle.std.specs.Prelude.{ℕ, List, Option}
use Rattle.bw_ports.specs.declared.recording_files.FileStamp.{FileStamp}
use Rattle.bw_plan.specs.Progress.{Progress}
use Rattle.bw_send_file.specs.FileFeeds.{FeedState}
use Rattle.bw_send_file.specs.declared.feed.PlanFeed.{PlanFeed}

-- the plan of its requests
abbrev pub feed_plan : {R S : Type 0} → PlanFeed R S → Progress
feed_plan f = f.plan

-- the reader of its file
abbrev pub feed_reader : {R S : Type 0} → PlanFeed R S → R
feed_reader f = f.reader

-- what looks at the file again
abbrev pub feed_stamped : {R S : Type 0} → PlanFeed R S → S
feed_stamped f = f.stamped

-- the file's stamp before it was opened
abbrev pub feed_stamp : {R S : Type 0} → PlanFeed R S → FileStamp
feed_stamp f = f.stamp

-- its state, by what a reader has left and by the stamp that is reported
abbrev pub feed_state : {R S : Type 0} → (R → Option (List ℕ)) → (S → Option FileStamp) →
    PlanFeed R S → FeedState
feed_state left stamp_of f = record {
  left = left (feed_reader f);
  plan = feed_plan f;
  reported = stamp_of (feed_stamped f);
  first = feed_stamp f;
}
