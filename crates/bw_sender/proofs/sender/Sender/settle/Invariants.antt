use Rattle.std.proofs.Common.{ℕ, length}
use Rattle.bw_model.specs.World.{Sender as Defined}
use Rattle.bw_sender.specs.Senders.{KeepsFrom}
use Rattle.bw_sender.proofs.sender.Sender.settle.Given as goal

abbrev pub invariant-loop : goal.invariant-loop
invariant-loop l = record {
  keeps : (k : ℕ) (s : Defined) → KeepsFrom k s l.fn.self → (n : ℕ) × KeepsFrom n s l.self;
}

abbrev pub decreases-loop : goal.decreases-loop
decreases-loop l = length l.self.window
