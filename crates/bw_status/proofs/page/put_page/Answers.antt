use Rattle.std.proofs.lemmas.Result.{on_ok_weaker}
use Rattle.bw_status.proofs.Appended.{six}
use Rattle.bw_status.proofs.page.put_page.Goals as goal

pub returns : goal.returns
returns c = on_ok_weaker c.put_text-3.result
    (λ is. six _ _ _ _ _ _ _ _ _ _ _ _ _ c.in_ok-put_start.ensures c.in_ok-put_text.ensures
    c.in_ok-put_all_rows.ensures c.in_ok-put_text-2.ensures
    c.in_ok-put_all_counts.ensures is) c.put_text-3.ensures
