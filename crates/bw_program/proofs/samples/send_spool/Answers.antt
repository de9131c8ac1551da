use Rattle.std.proofs.Common.{refl, inl, inr}
use Rattle.bw_program.proofs.samples.send_spool.Goals as goal

pub returns-in-Err : goal.returns-in-Err
returns-in-Err g c = record {
  sent = inr (record {
    keeper = c.keeper-keeper.result;
    lent = c.keeper-keeper.ensures.received;
    opened = c.states-states.result;
    kept = c.states-states.ensures;
    wish = c.wish_of-wish.result;
    wish_is = c.wish_of-wish.ensures;
    last = c.hold_begun.new.keeper;
    refuses = c.in-Err.ensures;
    files_are = refl;
    unpaused = refl;
    unprinted = refl;
  });
  well = refl;
  unused = refl;
  unread = refl;
  kept = refl;
}

pub returns : goal.returns
returns g c =
    let sent = rw c.since.ensures at c.send_samples_as-exit.ensures in record {
      sent = inl (record {
        keeper = c.keeper-keeper.result;
        lent = c.keeper-keeper.ensures.received;
        opened = c.states-states.result;
        kept = c.states-states.ensures;
        wish = c.wish_of-wish.result;
        wish_is = c.wish_of-wish.ensures;
        began = c.in-Ok.began;
        held = c.hold_begun.new.keeper;
        begun = c.hold_begun.new.faults;
        holds = c.in-Ok.ensures;
        ended = c.send_samples_as-exit.new.outside.faults;
        sends = sent.sent;
        last = c.keep_unless_done.new.keeper;
        keeps = rw c.as_str-path.ensures.value at c.keep_unless_done.ensures;
      });
      well = sent.well;
      unused = sent.unused;
      unread = sent.unread;
      kept = sent.kept;
    }
