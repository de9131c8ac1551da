use Rattle.std.proofs.Common.{◌≡◌, ◌∙◌, inl, inr, true, false, refl}
use Rattle.std.specs.IoError.{error_kind}
use Rattle.bw_console.specs.Outcomes.{PrintsText}
use Rattle.bw_repair.proofs.Reports.{unopened_prints}
use Rattle.bw_repair.specs.ConvertTexts.{made_text}
use Rattle.bw_repair.proofs.conversions.command.convert_file.Goals as goal

pub returns-in-Ok : goal.returns-in-Ok
returns-in-Ok g c =
    let p = c.print_text.ensures in
    let is : c.as_bytes.result.now ≡ made_text c.args.form c.in-Ok.len =
    c.as_bytes.ensures.value ∙ (c.as_str.ensures.value ∙ c.made_text.ensures) in
    let printed : PrintsText (made_text c.args.form c.in-Ok.len) p.0 = rw is at p.2 in (
      p.0,
      p.1,
      true,
      inl (record {
        len = c.in-Ok.len;
        right = c.in-Ok.ensures.ok;
        step = c.in-Ok.ensures.step;
        gives = refl;
        prints = printed;
      }),
      c.in-Ok.ensures.count,
      p.3,
    )

pub returns-in-Err-Refused : goal.returns-in-Err-Refused
returns-in-Err-Refused g c =
    let r = c.refuse.ensures in
    let left = rw c.in-Err-Refused.field-0-is at c.in-Err-Refused.ensures.left in
    let refused = rw c.in-Err-Refused.field-0-is at c.in-Err-Refused.ensures.err in (
      r.0,
      r.1,
      true,
      inr (inl (record {
        fault = c.in-Err-Refused.fault;
        right = λ b e. (refused b e, left b e);
        step = rw c.in-Err-Refused.field-0-is at c.in-Err-Refused.ensures.step;
        gives = refl;
        reports = rw c.in-Err-Refused.field-0-is at r.2;
      })),
      rw c.in-Err-Refused.field-0-is at c.in-Err-Refused.ensures.count,
      record { printed = rw r.2.prints refl; reported = r.3 },
    )

pub returns-in-Err-Unopened : goal.returns-in-Err-Unopened
returns-in-Err-Unopened g c =
    let r = c.report_unopened.ensures in
    let n = unopened_prints _ _ r.0 r.2 in (
      r.0,
      r.1,
      false,
      inr (inr (record {
        kind = error_kind c.in-Err-Unopened.error;
        kept = rw c.in-Err-Unopened.field-0-is at c.in-Err-Unopened.ensures.left;
        gives = refl;
        reports = rw c.in-Err-Unopened.field-0-is at r.2;
      })),
      rw c.in-Err-Unopened.field-0-is at c.in-Err-Unopened.ensures.count,
      record { printed = rw n.0 refl; reported = r.3 },
    )
