use Rattle.std.proofs.Common.{refl, inl, inr}
use Rattle.bw_program.proofs.samples.send_unspooled.Goals as goal

pub returns : goal.returns
returns g c = record {
  sent = inr (record {
    opened = c.states-states.result;
    wish = c.wish_of-wish.result;
    wish_is = c.wish_of-wish.ensures;
    refuses = c.in-Err.ensures;
    files_are = refl;
    unpaused = refl;
    unprinted = refl;
  });
  well = refl;
  unused = refl;
  unread = refl;
  kept = refl;
}

pub returns-in-Ok : goal.returns-in-Ok
returns-in-Ok g c =
    let sent = c.send_samples_as.ensures in record {
      sent = inl (record {
        opened = c.states-states.result;
        kept = c.states-states.ensures;
        wish = c.wish_of-wish.result;
        wish_is = c.wish_of-wish.ensures;
        filled = c.in-Ok.filled;
        begun = c.filled_of_file.new.faults;
        fills = c.in-Ok.ensures;
        sends = sent.sent;
      });
      well = sent.well;
      unused = sent.unused;
      unread = sent.unread;
      kept = sent.kept;
    }
