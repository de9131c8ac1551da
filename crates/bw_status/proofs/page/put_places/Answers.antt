use Rattle.std.proofs.lemmas.Result.{on_ok_weaker}
use Rattle.bw_status.proofs.Appended.{five}
use Rattle.bw_status.proofs.page.put_places.Goals as goal

pub returns : goal.returns
returns c = on_ok_weaker c.put_text-2.result
    (λ is. five _ _ _ _ _ _ _ _ _ _ _ c.in_ok-put_fact_start.ensures c.in_ok-put_number.ensures
    c.in_ok-put_text.ensures c.in_ok-put_number-2.ensures is) c.put_text-2.ensures
