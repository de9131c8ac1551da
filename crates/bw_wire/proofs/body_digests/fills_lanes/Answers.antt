use Rattle.std.proofs.Common.{◌≡◌, ◌⊎◌, inl, inr, ◌≤◌, ◌<◌, ◌+◌, ◌*◌, ℕ, List, [], drop, min, max, nat_lt, refl, sym, ap, ◌∙◌, arith}
use Rattle.std.specs.List.{sum}
use Rattle.std.specs.Borrow.{Bor}
use Rattle.std.proofs.Math.ListN.{drop_of_length-le}
use Rattle.std.proofs.Math.Nat.{max-zero, min-eq_left, min-eq_right}
use Rattle.std.proofs.lemmas.Bool.{cases_lt, le-ltb}
use Rattle.bw_wire.specs.BodyDigests.{lengths_of, longest_of}
use Rattle.bw_wire.proofs.body_digests.fills_lanes.Goals as goal

-- a sum that is no more than the largest number is counted, and a product beyond it is more than that sum
filled : (total s l product : ℕ) → total ≡ s → s ≤ 18446744073709551615 → product ≡ min (l * 3) 18446744073709551615 →
    nat_lt product total ≡ nat_lt (3 * l) s
filled total s l product t most p = go (cases_lt 18446744073709551615 (l * 3))
  where
    go : (18446744073709551615 < l * 3) ⊎ (l * 3 ≤ 18446744073709551615) → nat_lt product total ≡ nat_lt (3 * l) s
    go (inl beyond) =
        let full : product ≡ 18446744073709551615 = p ∙ min-eq_right (omega (arith, beyond)) in
        le-ltb product total (omega (arith, full, t, most)) ∙ sym (le-ltb (3 * l) s (omega (arith, beyond, most)))
    go (inr within) =
        let is : product ≡ 3 * l = p ∙ (min-eq_left within ∙ omega arith) in
        ap (λ n. nat_lt n total) is ∙ ap (λ n. nat_lt (3 * l) n) t

pub returns : goal.returns
returns c bounded =
    let none : drop c.loop-body.body-index c.args.bodies.now ≡ [] = drop_of_length-le c.args.bodies.now
    (omega (arith, c.told-bodies, c.loop-body-test.false)) in
    let total : min (c.loop-body.total + 0) 18446744073709551615 ≡ min (sum (lengths_of c.args.bodies.now)) 18446744073709551615 =
    ap (λ (xs : List (Bor (List ℕ))). min (c.loop-body.total + sum (lengths_of xs)) 18446744073709551615) (sym none)
    ∙ c.loop-body.invariant.total in
    let longest : max c.loop-body.longest 0 ≡ longest_of (lengths_of c.args.bodies.now) =
    ap (λ (xs : List (Bor (List ℕ))). max c.loop-body.longest (longest_of (lengths_of xs))) (sym none)
    ∙ c.loop-body.invariant.longest in
    let small : sum (lengths_of c.args.bodies.now) ≤ 18446744073709551615 = omega (arith, bounded) in
    let counted : c.loop-body.total ≡ sum (lengths_of c.args.bodies.now) = omega (arith, total, small, c.loop-body.invariant.fits) in
    filled c.loop-body.total (sum (lengths_of c.args.bodies.now)) (longest_of (lengths_of c.args.bodies.now))
    c.saturating_mul.result counted small
    (c.saturating_mul.ensures ∙ ap (λ (n : ℕ). min (n * 3) 18446744073709551615) (sym (max-zero c.loop-body.longest) ∙ longest))
