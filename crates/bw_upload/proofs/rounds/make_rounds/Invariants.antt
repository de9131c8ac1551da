use Rattle.std.proofs.Common.{◌≡◌}
use Rattle.bw_upload.specs.SendState.{Sending, IsSending}
use Rattle.bw_upload.proofs.RoundSteps.{RoundsOn}
use Rattle.bw_upload.proofs.rounds.make_rounds.Given as goal

abbrev pub invariant-loop-round : goal.invariant-loop-round
invariant-loop-round g l = (x : Sending) → IsSending x l.fn.dispatch → x.requests ≡ l.requests →
    RoundsOn g.D.Dial g.D.Reader.Source g.D.Writer.Sink l.requests x l.dispatch l.round
    l.fn.dial l.dial
