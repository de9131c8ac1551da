use Rattle.std.proofs.Common.{◌≡◌}
use Rattle.bw_model.specs.World.{Sender as Defined}
use Rattle.bw_sender.specs.Senders.{IsSender}
use Rattle.bw_sender.proofs.Batching.{SentTo}
use Rattle.bw_sender.proofs.sending.send_pending.Given as goal

abbrev pub invariant-loop-place : goal.invariant-loop-place
invariant-loop-place g l = record {
  sent : (s : Defined) → IsSender s l.sender →
      SentTo l.place s (g.W.Sink.written l.fn.writer) (g.W.Sink.written l.writer);
  writes : g.W.Sink.failures l.writer ≡ g.W.Sink.failures l.fn.writer;
}
