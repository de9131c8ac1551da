-- What a feed looks at before the last of its requests.
use Rattle.std.specs.Prelude.{Option}
use Rattle.bw_ports.specs.declared.recording_files.FileStamp.{FileStamp}
use Rattle.bw_ports.specs.declared.recording_files.Stamped.{Ghosts as StampedGhosts}
use Rattle.bw_send_file.specs.FileFeeds.{IsLookedAt}
use Rattle.bw_send_file.specs.declared.feed.PlanFeed.{PlanFeed}

-- the feed of a file with this stamp, if it is reported, looks at the file again
abbrev pub LooksAt : {R S : Type 0} → StampedGhosts S → Option FileStamp → PlanFeed R S → Type 0
LooksAt stamped reported feed = IsLookedAt reported (stamped.stamp_of feed.stamped) feed.stamp
