use Rattle.std.proofs.Common.{rules, refl, subst, sym, ◌≡◌, None}
use Rattle.std.specs.List.{AllByRecursion}
use Rattle.bw_connections.proofs.Standing.{all_empty, empty_more, keeps_new}
use Rattle.bw_connections.proofs.connections.Connections.new.Goals as goal

pub loop-place-preserved : goal.loop-place-preserved
loop-place-preserved g c = record {
  count = search rules;
  empty = subst (AllByRecursion (λ x. x ≡ None)) (sym c.in_ok-push.ensures.items)
      (empty_more c.loop-place.places.items c.loop-place.invariant.empty);
}

pub returns-clause-keeps : goal.returns-clause-keeps
returns-clause-keeps g c = keeps_new g.L.Link _ refl (λ i d. all_empty _ i d c.loop-place.invariant.empty)
