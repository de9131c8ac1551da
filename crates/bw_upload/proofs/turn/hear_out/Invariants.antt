use Rattle.std.proofs.Common.{◌≡◌, true}
use Rattle.bw_upload.specs.Conversations.{Conversing}
use Rattle.bw_upload.specs.Turns.{IsTalking}
use Rattle.bw_upload.proofs.TurnSteps.{OutSoFar}
use Rattle.bw_upload.proofs.turn.hear_out.Given as goal

abbrev pub invariant-loop-read : goal.invariant-loop-read
invariant-loop-read g l =
    (x : Conversing g.row.R.Denot g.row.W.Denot) → IsTalking x l.fn.sender l.fn.talk l.fn.link →
    x.line.is_broken ≡ true → OutSoFar g.R.Source g.W.Sink x l.sender l.talk l.link
