use Rattle.bw_upload.proofs.TurnSteps.{listened}
use Rattle.bw_upload.proofs.turn.hear.Goals as goal

pub returns : goal.returns
returns g c = λ x is may.
    rw c.turn_end.ensures (listened
    g.R.Source g.W.Sink c.listen.result x c.args.sender.now c.listen.new.sender c.args.talk.now c.listen.new.self
    c.args.link.now c.listen.new.reader is may c.listen.ensures.said c.listen.ensures.listens)
