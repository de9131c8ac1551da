use Rattle.std.proofs.Common.{Result, Ok, Err, OnOk, OnErr, ◌≡◌, ◌≤◌, ◌+◌, ℕ, inr, arith}
use Rattle.std.specs.Prelude.{max, vec_capacity, vec_len}
use Rattle.std.proofs.lemmas.Grind.{common_steps}
use Rattle.bw_session.proofs.Packing.{length-entries}
use Rattle.bw_session.proofs.ledger.Ledger.reserve.Goals as goal

on_ok : {T E P Q : Type 0} (r : Result T E) → OnOk r P → (P → Q) → OnOk r Q
on_ok (Ok x) p f = f p
on_ok (Err e) p f = tt

pub returns-clause-grows : goal.returns-clause-grows
returns-clause-grows c =
    on_ok c.reserve_exact.result c.reserve_exact.ensures.capacity_exact (λ e.
    let long = c.max.ensures in
    let len = c.len-2.ensures in
    let same = c.reserve_exact.ensures.items in
    inr (rw (← c.self.view_is, length-entries) (grind (arith, common_steps))))

at_most : {T E : Type 0} (r : Result T E) (now old more : ℕ) → OnOk r (now ≡ max old more) → OnErr r (now ≡ old) →
    now ≤ max old more
at_most (Ok x) now old more ok err = grind arith
at_most (Err e) now old more ok err = grind arith

pub returns-clause-most : goal.returns-clause-most
returns-clause-most c =
    let long = c.max.ensures in
    let len = c.len-2.ensures in
    let same = c.reserve_exact.ensures.items in
    let more : vec_capacity c.reserve_exact.new.self
    ≤ max (vec_capacity c.self.inside.bytes) (vec_len c.self.inside.bytes + c.max.result) =
    at_most c.reserve_exact.result _ _ _ c.reserve_exact.ensures.capacity_exact c.reserve_exact.ensures.err in
    rw (← c.self.view_is, length-entries) (grind (arith, common_steps))
