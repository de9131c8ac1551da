use Rattle.std.proofs.Common.{◌≡◌, ◌≤◌, ◌+◌, arith, length, rules, subst, sym, vec_len}
use Rattle.bw_operators.proofs.PlacedLemmas.{IsOldest, IsOldestBelow, is_asked, is_longest, is_none_asked}
use Rattle.bw_operators.proofs.PlacedLemmas.{older, oldest_of_all}
use Rattle.bw_operators.proofs.operators.Operators.asked.Goals as goal
use Rattle.bw_operators.proofs.operators.Operators.asked.Goals.{After-loop-place}
use Rattle.bw_operators.proofs.operators.Operators.asked.Given.{Over}

pub loop-place-init : goal.loop-place-init
loop-place-init g c = λ j below. absurd (omega (arith, below))

pub loop-place-preserved : goal.loop-place-preserved
loop-place-preserved g c =
    subst (λ r. IsOldestBelow c.args.self.now (c.loop-place.place + 1) r) (sym c.older-oldest.ensures)
    (older c.args.self.now c.loop-place.place _ c.loop-place.invariant)

-- after the last place
oldest : (g : Over) (c : After-loop-place g) → IsOldest c.args.self.now c.loop-place.oldest
oldest g c =
    let len : vec_len c.args.self.now.places ≡ length c.args.self.now.places.items = search rules in
    let all : length c.args.self.now.places.items ≤ c.loop-place.place =
    omega (arith, len, c.len-place-end.ensures, c.loop-place-test.false) in
    oldest_of_all c.args.self.now c.loop-place.place _ all c.loop-place.invariant

pub returns-clause-asks : goal.returns-clause-asks
returns-clause-asks g c = is_asked c.args.self.now _ (oldest g c)

pub returns-clause-longest : goal.returns-clause-longest
returns-clause-longest g c = is_longest c.args.self.now _ (oldest g c)

pub returns-clause-none : goal.returns-clause-none
returns-clause-none g c = is_none_asked c.args.self.now _ (oldest g c)
