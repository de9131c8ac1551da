use Rattle.std.proofs.Common.{◌≡◌, None, vec_len}
use Rattle.std.specs.List.{AllByRecursion}
use Rattle.bw_connections.proofs.connections.Connections.new.Given as goal

abbrev pub invariant-loop-place : goal.invariant-loop-place
invariant-loop-place g l = record {
  count : vec_len l.places ≡ l._place;
  empty : AllByRecursion (λ x. x ≡ None) l.places.items;
}
