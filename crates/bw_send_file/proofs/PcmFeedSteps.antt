-- What the requests of samples give, a feed of them gives.
use Rattle.std.proofs.Common.{◌≡◌, List, Result, Ok, Err, sym, subst}
use Rattle.bw_model.specs.Take.{Request}
use Rattle.bw_send_file.specs.ComingRequests.{GivesOf}
use Rattle.bw_send_file.specs.declared.follow_fault.PcmFault.{PcmFault}
use Rattle.bw_send_file.specs.declared.follow_fault.PcmFault.TheVariants as faults
use Rattle.bw_send_file.specs.declared.followed_requests.NextRequest.{NextRequest}
use Rattle.bw_send_file.specs.declared.followed_requests.NextRequest.TheVariants as nexts
use Rattle.bw_send_file.specs.declared.fault.FeedFault.{FeedFault}
use Rattle.bw_upload.specs.Feeds.{FeedsOf}
use Rattle.bw_upload.specs.declared.feed.Given.{Given}
use Rattle.bw_send_file.specs.PcmFeeds.{feed_given}

feeds : (requests : List Request) (next : Result NextRequest PcmFault) (left : List Request → Type 0) →
    GivesOf requests next left → FeedsOf requests (feed_given next) left
feeds requests (Ok (nexts.Request r)) left h = h
feeds requests (Ok nexts.NotYet) left h = h
feeds requests (Ok nexts.End) left h = h
feeds requests (Err (faults.Unread place)) left h = tt
feeds requests (Err (faults.PartFrame place)) left h = tt
feeds requests (Err (faults.Empty place)) left h = tt
feeds requests (Err faults.TooLong) left h = tt
feeds requests (Err faults.Unsendable) left h = tt
feeds requests (Err faults.Memory) left h = tt

pub feeds_so : (requests : List Request) (next : Result NextRequest PcmFault) (given : Result Given FeedFault)
    (left : List Request → Type 0) → given ≡ feed_given next → GivesOf requests next left → FeedsOf requests given left
feeds_so requests next given left is h =
    subst (λ (x : Result Given FeedFault). FeedsOf requests x left) (sym is) (feeds requests next left h)
