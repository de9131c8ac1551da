use Rattle.bw_end_to_end.proofs.UploadLinks.{uploads_send, uploads_send_on}
use Rattle.bw_end_to_end.proofs.law_uploaded.Goals as goal

pub returns : goal.returns
returns g c = record {
  new = λ most. uploads_send _ _ _ _ _ most;
  on = λ most. uploads_send_on _ _ _ _ _ most;
}
