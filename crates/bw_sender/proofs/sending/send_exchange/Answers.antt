use Rattle.std.proofs.Common.{inl, inr}
use Rattle.bw_sender.proofs.sending.send_exchange.Goals as goal

pub returns-in-Err-Write : goal.returns-in-Err-Write
returns-in-Err-Write g c =
    let write = c.in-Err-Write.field-0-is in
    let heard = c.hear_replies-in-Err-Write.ensures in
    inr (inl (record {
      cut = λ s is. rw write at c.in-Err-Write.ensures.err s is;
      counted = rw write at c.in-Err-Write.ensures.count;
      hearing = c.hear_replies-in-Err-Write.result;
      over = record { hears = heard.hears; reads = heard.reads; calls = heard.calls; limit = heard.limit };
      ends = c.end_after_write.ensures;
    }))
