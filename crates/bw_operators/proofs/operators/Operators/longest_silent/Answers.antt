use Rattle.std.proofs.Common.{◌≡◌, ◌≤◌, ◌+◌, arith, length, rules, subst, sym, vec_len}
use Rattle.bw_operators.proofs.SilentLemmas.{IsOldestSilent, longest_of_all, none_of_all, older_silent}
use Rattle.bw_operators.proofs.operators.Operators.longest_silent.Goals as goal
use Rattle.bw_operators.proofs.operators.Operators.longest_silent.Goals.{After-loop-place}
use Rattle.bw_operators.proofs.operators.Operators.longest_silent.Given.{Over}

pub loop-place-init : goal.loop-place-init
loop-place-init g c = λ j below. absurd (omega (arith, below))

pub loop-place-preserved : goal.loop-place-preserved
loop-place-preserved g c =
    subst (λ r. IsOldestSilent c.args.self.now c.args.now (c.loop-place.place + 1) r) (sym c.older_silent-oldest.ensures)
    (older_silent c.args.self.now c.args.now c.loop-place.place _ c.loop-place.invariant)

-- after the last place
all : (g : Over) (c : After-loop-place g) → length c.args.self.now.places.items ≤ c.loop-place.place
all g c =
    let len : vec_len c.args.self.now.places ≡ length c.args.self.now.places.items = search rules in
    omega (arith, len, c.len-place-end.ensures, c.loop-place-test.false)

pub returns-clause-longest : goal.returns-clause-longest
returns-clause-longest g c = longest_of_all c.args.self.now c.args.now _ _ (all g c) c.loop-place.invariant

pub returns-clause-none : goal.returns-clause-none
returns-clause-none g c = none_of_all c.args.self.now c.args.now _ _ (all g c) c.loop-place.invariant
