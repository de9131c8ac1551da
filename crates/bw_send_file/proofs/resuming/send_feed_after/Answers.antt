use Rattle.bw_send_file.proofs.resuming.send_feed_after.Goals as goal

pub returns : goal.returns
returns g c = λ s has. c.send_by.ensures s (c.resume-sender.ensures s (rw c.copy.ensures has))
