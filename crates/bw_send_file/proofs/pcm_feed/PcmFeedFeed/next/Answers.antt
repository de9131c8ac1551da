use Rattle.bw_send_file.proofs.PcmFeedSteps.{feeds_so}
use Rattle.bw_send_file.proofs.pcm_feed.PcmFeedFeed.next.Goals as goal

pub returns-clause-left : goal.returns-clause-left
returns-clause-left g c = λ requests old.
    feeds_so requests c.next.result c.given_of.result _ c.given_of.ensures (c.next.ensures.left requests old)
