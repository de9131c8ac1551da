use Rattle.bw_program.proofs.RequestLemmas.{any_spooled, any_unspooled}
use Rattle.bw_program.proofs.samples.send_pcm_as.Goals as goal

pub returns-then-sender : goal.returns-then-sender
returns-then-sender g c = any_spooled _ _ _ _ _ _ _ c.if-sender.true c.send_spool.ensures

pub returns-else-sender : goal.returns-else-sender
returns-else-sender g c = any_unspooled _ _ _ _ _ _ _ c.if-sender.false c.send_unspooled.ensures
