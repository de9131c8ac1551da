use Rattle.std.proofs.Common.{refl, inr}
use Rattle.bw_upload.specs.RoundsMade.{heard_over}
use Rattle.bw_upload.proofs.RoundSteps.{on_ok, counted}
use Rattle.bw_upload.proofs.rounds.make_round.Goals as goal

pub returns : goal.returns
returns g c = λ s is.
    let sent = c.send_exchange-ended.ensures in
    on_ok c.unless_memory.result c.unless_memory.ensures.ok (λ goes. (
      heard_over sent,
      counted sent s is,
      inr (record {
        counted = c.in-Ok.ensures.count;
        link = c.in-Ok.link;
        called = c.in-Ok.ensures.received;
        next = c.in-Ok.ensures.ok;
        exchange = record {
          result = c.send_exchange-ended.result;
          goes_on = goes;
          before = c.args.sender.now;
          after = c.send_exchange-ended.new.sender;
          is_sender = is;
          r' = c.send_exchange-ended.new.reader;
          w' = c.send_exchange-ended.new.writer;
          exchanges = sent;
          heard_is = refl;
        };
      }),
    ))
