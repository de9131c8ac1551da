use Rattle.std.proofs.lemmas.Result.{on_ok_weaker}
use Rattle.bw_status.proofs.Appended.{eight}
use Rattle.bw_status.proofs.responding.put_fields.Goals as goal

pub returns : goal.returns
returns c = on_ok_weaker c.put_text.result
    (λ is. eight _ _ _ _ _ _ _ _ _ _ _ _ _ _ _ _ _ c.in_ok-put_field.ensures c.in_ok-put_field-2.ensures
    c.in_ok-put_field-3.ensures c.in_ok-put_field-4.ensures c.in_ok-put_field-5.ensures c.in_ok-put_field-6.ensures
    c.in_ok-put_field-7.ensures is) c.put_text.ensures
