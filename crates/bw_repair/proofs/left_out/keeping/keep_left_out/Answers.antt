use Rattle.std.proofs.Common.{inl, inr, true, false, refl}
use Rattle.std.specs.IoError.{error_kind}
use Rattle.bw_repair.proofs.left_out.keeping.keep_left_out.Goals as goal

pub returns-in-Ok-clause-keeps : goal.returns-in-Ok-clause-keeps
returns-in-Ok-clause-keeps g c = (
  true,
  (record { right = c.in-Ok.ensures.ok; step = c.in-Ok.ensures.step; gives = refl }, refl),
  c.in-Ok.ensures.count,
)

pub returns-in-Err-Refused-clause-keeps : goal.returns-in-Err-Refused-clause-keeps
returns-in-Err-Refused-clause-keeps g c =
    let r = c.refuse.ensures in
    let left = rw c.in-Err-Refused.field-0-is at c.in-Err-Refused.ensures.left in
    let refused = rw c.in-Err-Refused.field-0-is at c.in-Err-Refused.ensures.err in (
      true,
      record {
        did = r.0;
        ends = r.1;
        is = inl (record {
          fault = c.in-Err-Refused.fault;
          right = λ b e. (refused b e, left b e);
          step = rw c.in-Err-Refused.field-0-is at c.in-Err-Refused.ensures.step;
          gives = refl;
          reports = r.2;
        });
        reports = r.3;
      },
      rw c.in-Err-Refused.field-0-is at c.in-Err-Refused.ensures.count,
    )

pub returns-in-Err-Unopened-clause-keeps : goal.returns-in-Err-Unopened-clause-keeps
returns-in-Err-Unopened-clause-keeps g c =
    let r = c.report_unopened.ensures in (
      false,
      record {
        did = r.0;
        ends = r.1;
        is = inr (record {
          kind = error_kind c.in-Err-Unopened.error;
          kept = rw c.in-Err-Unopened.field-0-is at c.in-Err-Unopened.ensures.left;
          gives = refl;
          reports = r.2;
        });
        reports = r.3;
      },
      rw c.in-Err-Unopened.field-0-is at c.in-Err-Unopened.ensures.count,
    )
