use Rattle.std.proofs.Common.{sym, ◌∙◌, arith}
use Rattle.bw_sender.proofs.Resumed.{resumed_within, resumed_window, resumed_stored, resumed_refused, resumed_closed}
use Rattle.bw_sender.proofs.sender.Sender.resume.Goals as goal

pub returns : goal.returns
returns c = λ s h.
    let name = c.args.name in
    let count = c.args.count in
    record {
      name = sym h.name_is;
      offered = sym h.offered;
      within = resumed_within name count s h;
      prefix = omega arith;
      window = c.in_ok-new.ensures ∙ sym (resumed_window name count s h);
      stored = sym (resumed_stored name count s h);
      refused = c.new-2.ensures.numbers ∙ sym (resumed_refused name count s h);
      closed = sym (resumed_closed name count s h);
    }
