use Rattle.std.proofs.lemmas.Result.{on_ok_weaker}
use Rattle.bw_status.proofs.Appended.{six}
use Rattle.bw_status.proofs.page.put_facts.Goals as goal

pub returns : goal.returns
returns c = on_ok_weaker c.put_count-4.result
    (λ is. six _ _ _ _ _ _ _ _ _ _ _ _ _ c.in_ok-put_server_facts.ensures c.in_ok-put_places.ensures
    c.in_ok-put_count.ensures c.in_ok-put_count-2.ensures c.in_ok-put_count-3.ensures is) c.put_count-4.ensures
