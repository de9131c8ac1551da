use Rattle.std.proofs.lemmas.Result.{on_ok_weaker}
use Rattle.bw_status.proofs.Appended.{seven}
use Rattle.bw_status.proofs.row.put_sound_cell.Goals as goal

pub returns : goal.returns
returns c = on_ok_weaker c.put_text-3.result
    (λ is. seven _ _ _ _ _ _ _ _ _ _ _ _ _ _ _ c.in_ok-put_cell_start.ensures c.in_ok-put_number.ensures
    c.in_ok-put_text.ensures c.in_ok-put_number-2.ensures c.in_ok-put_text-2.ensures c.in_ok-put_number-3.ensures
    is) c.put_text-3.ensures
