use Rattle.std.proofs.Common.{◌≡◌, ◌≤◌, arith, length, rules, vec_len}
use Rattle.bw_operators.proofs.PlacedLemmas.{steps_all, steps_left, steps_next}
use Rattle.bw_operators.proofs.operators.Operators.work.Goals as goal

pub loop-place-preserved : goal.loop-place-preserved
loop-place-preserved g c = record {
  connections = λ is. c.work_at.ensures.connections (c.loop-place.invariant.connections is);
  places = search rules;
  done = steps_next g.L.Link c.args.now c.loop-place.place _ _ _ c.loop-place.invariant.done
      c.loop-place.invariant.left c.work_at.ensures.step c.work_at.ensures.others.others;
  left = steps_left g.L.Link c.args.now c.loop-place.place _ _ _ c.loop-place.invariant.left
      c.work_at.ensures.others.others;
}

pub returns-clause-steps : goal.returns-clause-steps
returns-clause-steps g c =
    let len : vec_len c.args.self.now.places ≡ length c.args.self.now.places.items = search rules in
    let all : length c.args.self.now.places.items ≤ c.loop-place.place =
    omega (arith, len, c.len-place-end.ensures, c.loop-place-test.false) in
    steps_all g.L.Link c.args.now c.loop-place.place _ _ all c.loop-place.invariant.done
