use Rattle.std.proofs.lemmas.Result.{on_ok_weaker}
use Rattle.bw_status.proofs.Appended.{four}
use Rattle.bw_status.proofs.page.put_start.Goals as goal

pub returns : goal.returns
returns c = on_ok_weaker c.put_facts.result
    (λ is. four _ _ _ _ _ _ _ _ _ c.in_ok-put_text.ensures c.in_ok-put_all_left_outs.ensures
    c.in_ok-put_text-2.ensures is) c.put_facts.ensures
