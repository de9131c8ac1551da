use Rattle.bw_delivery.proofs.StopTexts.{in_parts, same_counts}
use Rattle.bw_delivery.proofs.text.text_of_stops.Goals as goal

pub returns : goal.returns
returns c = λ limit events was. record {
  it = c.args.it.now;
  was = was;
  is = in_parts c.new-text.result.items c.put_counts.new.out.items c.put_progress.new.out.items _ _ _ _ _
      c.new-text.ensures.items c.in_ok-put_counts.ensures (same_counts _ _ _ _ _ _ was.offered was.sent was.replies)
      (c.in_ok-put_progress.ensures limit was.world c.args.name.now was.sender was.machine) c.in_ok-put_take.ensures;
}
