-- What is seen of the feed of headerless samples.
use Rattle.bw_send_file.specs.declared.followed_state.PcmRequests.{PcmRequests}
use Rattle.bw_send_file.specs.declared.pcm_feed.PcmFeed.{PcmFeed}

-- the requests that it gives
abbrev pub requests_of_feed : {F : Type 0} → PcmFeed F → PcmRequests F
requests_of_feed f = f.requests
