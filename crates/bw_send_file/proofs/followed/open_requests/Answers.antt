use Rattle.bw_send_file.proofs.KnownLengths.{known_before}
use Rattle.bw_send_file.proofs.followed.open_requests.Goals as goal

pub returns-in-Ok-new-clause-follows : goal.returns-in-Ok-new-clause-follows
returns-in-Ok-new-clause-follows g c = λ b e r is. c.in-Ok-new.ensures.plan b r (c.in-Ok.ensures.ok b e) is

pub returns-in-Err-clause-follows : goal.returns-in-Err-clause-follows
returns-in-Err-clause-follows g c = known_before _ _

pub returns-in-Err-known_len-clause-follows : goal.returns-in-Err-known_len-clause-follows
returns-in-Err-known_len-clause-follows g c = known_before _ _
