-- What the feed of headerless samples that are still being written gives.
use Rattle.std.specs.Prelude.{◌≡◌, Result, Ok, Err}
use Rattle.bw_inspect.specs.declared.fault.InspectKind.TheVariants.{Read}
use Rattle.bw_plan.specs.declared.fault.RecordingKind.TheVariants as kinds
use Rattle.bw_ports.specs.declared.followed.Followed.{Ghosts as FollowedGhosts}
use Rattle.bw_upload.specs.declared.feed.Given.{Given}
use Rattle.bw_upload.specs.declared.feed.Given.TheVariants as gives
use Rattle.bw_send_file.specs.declared.fault.FeedFault.{FeedFault}
use Rattle.bw_send_file.specs.declared.fault.FeedFault.TheVariants as feeds
use Rattle.bw_send_file.specs.ComingRequests.{NextComesTo, CountsUnread}
use Rattle.bw_send_file.specs.declared.follow_fault.PcmFault.{PcmFault}
use Rattle.bw_send_file.specs.declared.follow_fault.PcmFault.TheVariants as faults
use Rattle.bw_send_file.specs.declared.followed_requests.NextRequest.{NextRequest}
use Rattle.bw_send_file.specs.declared.followed_requests.NextRequest.TheVariants as nexts
use Rattle.bw_send_file.specs.declared.followed_state.PcmRequests.{PcmRequests}

-- what a feed gives, where this is the next request
abbrev pub feed_given : Result NextRequest PcmFault → Result Given FeedFault
feed_given (Ok (nexts.Request r)) = Ok (gives.Request r)
feed_given (Ok nexts.NotYet) = Ok gives.NotYet
feed_given (Ok nexts.End) = Ok gives.End
feed_given (Err (faults.Unread place)) = Err (feeds.Unread (record { kind = Read; offset = place }))
feed_given (Err (faults.PartFrame place)) =
    Err (feeds.Refused (record { kind = kinds.PartFrame; offset = place }))
feed_given (Err (faults.Empty place)) =
    Err (feeds.Refused (record { kind = kinds.Empty; offset = place }))
feed_given (Err faults.TooLong) = Err (feeds.Refused (record { kind = kinds.TooLong; offset = 0 }))
feed_given (Err faults.Unsendable) = Err feeds.Unsendable
feed_given (Err faults.Memory) = Err feeds.Memory

-- one call for the next request gave this
abbrev pub GivesOfSamples : {F : Type 0} → FollowedGhosts F → PcmRequests F → Result Given FeedFault →
    PcmRequests F → Type 0
GivesOfSamples followed x given y =
    (next : Result NextRequest PcmFault) × (given ≡ feed_given next)
    × NextComesTo followed next x y × CountsUnread followed next x y
