use Rattle.std.proofs.Common.{◌≡◌, ◌∙◌, inl, inr, true, false, refl}
use Rattle.std.specs.IoError.{error_kind}
use Rattle.bw_console.specs.Outcomes.{PrintsText}
use Rattle.bw_repair.specs.Texts.{plan_text}
use Rattle.bw_repair.proofs.Reports.{unwritten_prints}
use Rattle.bw_repair.proofs.command.write_plan.Goals as goal

pub returns-in-Ok : goal.returns-in-Ok
returns-in-Ok g c =
    let p = c.print_text.ensures in
    let is : c.as_bytes.result.now ≡ plan_text c.args.plan.now true =
    c.as_bytes.ensures.value ∙ (c.as_str.ensures.value ∙ c.plan_text.ensures) in
    let printed : PrintsText (plan_text c.args.plan.now true) p.0 = rw is at p.2 in (
      p.0,
      p.1,
      true,
      record { others = c.in-Ok.ensures.others; ends = inl (refl, c.in-Ok.ensures.ok, printed) },
      c.in-Ok.ensures.count,
      p.3,
    )

pub returns-in-Err : goal.returns-in-Err
returns-in-Err g c =
    let r = c.report_unwritten.ensures in
    let n = unwritten_prints _ _ r.0 r.2 in (
      r.0,
      r.1,
      false,
      record {
        others = c.in-Err.ensures.others;
        ends = inr (refl, c.in-Err.ensures.err, (error_kind c.in-Err.error, r.2));
      },
      c.in-Err.ensures.count,
      record { printed = rw n.0 refl; reported = r.3 },
    )
