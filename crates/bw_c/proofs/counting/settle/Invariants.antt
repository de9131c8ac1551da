use Rattle.std.proofs.Common.{ℕ, ◌-◌}
use Rattle.bw_model.specs.World.{Sender as Defined}
use Rattle.bw_c.specs.PlainSenders.{PlainFrom}
use Rattle.bw_c.proofs.counting.settle.Given as goal

abbrev pub invariant-loop : goal.invariant-loop
invariant-loop l = record {
  keeps : (k : ℕ) (s : Defined) → PlainFrom k s l.fn.sender → (n : ℕ) × PlainFrom n s l.sender;
}

abbrev pub decreases-loop : goal.decreases-loop
decreases-loop l = l.sender.offered - l.sender.settled
