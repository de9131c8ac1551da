use Rattle.std.proofs.Common.{◌≡◌, ◌<◌, ◌≤◌, ℕ, vec_len}
use Rattle.std.specs.Prelude.{slice_get}
use Rattle.bw_operators.specs.OperatorPlaces.{AreConnections, StepsIn}
use Rattle.bw_operators.proofs.operators.Operators.work.Given as goal

-- those that are left are connections, at as many places; those at the places below made a step, and
-- the others are as they were
abbrev pub invariant-loop-place : goal.invariant-loop-place
invariant-loop-place g l = record {
  connections : AreConnections g.L.Link l.fn.self → AreConnections g.L.Link l.self;
  places : vec_len l.self.places ≡ vec_len l.fn.self.places;
  done : (j : ℕ) → j < l.place → StepsIn g.L.Link l.now l.fn.self.places.items l.self.places.items j;
  left : (j : ℕ) → l.place ≤ j → slice_get l.self.places.items j ≡ slice_get l.fn.self.places.items j;
}
