use Rattle.std.proofs.Common.{◌≡◌, None, vec_len}
use Rattle.std.specs.List.{AllByRecursion}
use Rattle.bw_operators.proofs.operators.Operators.new.Given as goal

-- as many places as were counted, all free
abbrev pub invariant-loop-place : goal.invariant-loop-place
invariant-loop-place g l = record {
  count : vec_len l.places ≡ l._place;
  empty : AllByRecursion (λ x. x ≡ None) l.places.items;
}
