use Rattle.std.proofs.Common.{arith, length, rules, subst, sym, vec_len, ◌≡◌, None}
use Rattle.std.specs.List.{AllByRecursion}
use Rattle.bw_operators.proofs.PlacedLemmas.{all_empty, all_free, empty_more}
use Rattle.bw_operators.proofs.operators.Operators.new.Goals as goal

pub loop-place-preserved : goal.loop-place-preserved
loop-place-preserved g c = record {
  count = search rules;
  empty = subst (AllByRecursion (λ x. x ≡ None)) (sym c.in_ok-push.ensures.items)
      (empty_more c.loop-place.places.items c.loop-place.invariant.empty);
}

pub returns-clause-connections : goal.returns-clause-connections
returns-clause-connections g c = λ i d at. absurd (all_empty _ i d c.loop-place.invariant.empty at)

pub returns-clause-free : goal.returns-clause-free
returns-clause-free g c = λ place below.
    let len : vec_len c.loop-place.places ≡ length c.loop-place.places.items = search rules in
    all_free _ place c.loop-place.invariant.empty
    (omega (arith, below, len, c.loop-place.invariant.count, c.loop-place-test.false))
