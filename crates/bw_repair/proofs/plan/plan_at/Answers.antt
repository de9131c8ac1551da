use Rattle.std.proofs.Common.{◌+◌, ◌≤◌, length, arith, inl, inr, sym}
use Rattle.bw_repair.proofs.plan.plan_at.Goals as goal

pub returns-in-Err-check-clause-err : goal.returns-in-Err-check-clause-err
returns-in-Err-check-clause-err g c = λ b e h.
    let rest = h.rest in
    let there : c.args.head.now.place + 8 ≤ length b = omega (arith, rest) in
    inr (inr (inl (
      c.in-Err-check.fault,
      c.from.ensures,
      c.args.head.now,
      c.in-Ok.sizes,
      record { head = h; certain = sym c.in-Ok.ensures },
      c.in-Err-check.ensures.err b (c.in-Ok-open_edited.ensures.ok b e) there,
    )))
