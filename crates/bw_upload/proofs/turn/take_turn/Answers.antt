use Rattle.bw_upload.proofs.TurnSteps.{said_and_heard, broke_and_heard, lacks_memory}
use Rattle.bw_upload.proofs.turn.take_turn.Goals as goal

pub returns-in-Ok : goal.returns-in-Ok
returns-in-Ok g c = λ x is whole some.
    said_and_heard g.R.Source g.W.Sink c.hear.result x c.args.sender.now c.hear.new.sender c.args.talk.now
    c.say.new.self c.hear.new.talk c.args.link.now c.hear.new.link c.say.new.writer is whole some
    (c.in-Ok.ensures.ok x.sender is.sender_is) (c.in-Ok.ensures.next x.sender is.sender_is) c.say.ensures.heard
    c.hear.ensures

pub returns-in-Err-Write : goal.returns-in-Err-Write
returns-in-Err-Write g c = λ x is whole some.
    let write = c.in-Err-Write.field-0-is in
    broke_and_heard g.R.Source g.W.Sink c.hear_out.result x c.args.sender.now c.hear_out.new.sender c.args.talk.now c.say.new.self
    c.hear_out.new.talk c.args.link.now c.hear_out.new.link c.say.new.writer is whole
    (rw write at c.in-Err-Write.ensures.err x.sender is.sender_is) (rw write at c.in-Err-Write.ensures.count)
    c.say.ensures.heard c.hear_out.ensures

pub returns-in-Err : goal.returns-in-Err
returns-in-Err g c = λ x is whole some. lacks_memory g.R.Source g.W.Sink x _ c.args.talk.now _ c.args.link.now _ is
