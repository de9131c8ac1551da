use Rattle.std.proofs.lemmas.Result.{on_ok_weaker}
use Rattle.bw_status.proofs.Appended.{six}
use Rattle.bw_status.proofs.responding.put_head.Goals as goal

pub returns : goal.returns
returns c = on_ok_weaker c.put_fields.result
    (λ is. six _ _ _ _ _ _ _ _ _ _ _ _ _ c.in_ok-put_field.ensures c.in_ok-put_field-2.ensures
    c.in_ok-put_text.ensures c.in_ok-put_number.ensures c.in_ok-put_text-2.ensures is) c.put_fields.ensures
