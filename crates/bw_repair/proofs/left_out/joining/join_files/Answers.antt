use Rattle.std.proofs.Common.{inl, inr, true, false, refl, sym, ap}
use Rattle.std.specs.IoError.{error_kind}
use Rattle.bw_console.specs.Prints.{Nothing, Part, Whole}
use Rattle.bw_console.specs.declared.exit.Exit.TheVariants as exits
use Rattle.bw_repair.specs.Conversions.{exit_on_conversion}
use Rattle.bw_repair.specs.declared.conversions.fault.ConvertFault.{ConvertFault}
use Rattle.bw_repair.proofs.JoinedFiles.{part_print, take_unopened}
use Rattle.bw_repair.proofs.Reports.{unopened_prints}
use Rattle.bw_repair.proofs.left_out.joining.join_files.Goals as goal

pub returns-in-Ok : goal.returns-in-Ok
returns-in-Ok g c =
    let p = c.in-Ok.ensures.ends in (
      record { reads_all = true; out = Whole p.text; faults = Nothing; exit = exits.Done },
      refl,
      true,
      inl (record { text = p.text; right = p.right; gives = refl; prints = (refl, inl (refl, refl, refl)) }),
      c.in-Ok.ensures.count,
      record { printed = p.prints; reported = refl },
    )

pub returns-in-Err-TakeUnopened : goal.returns-in-Err-TakeUnopened
returns-in-Err-TakeUnopened g c =
    let r = c.report_unopened.ensures in
    let n = unopened_prints _ _ r.0 r.2 in
    let kept = rw c.in-Err-TakeUnopened.field-0-is at c.in-Err-TakeUnopened.ensures.ends in (
      r.0,
      r.1,
      false,
      inr (inr (inr (record {
        kind = error_kind c.in-Err-TakeUnopened.error;
        gives = refl;
        reports = take_unopened _ _ _ _ r.2;
      }))),
      rw c.in-Err-TakeUnopened.field-0-is at c.in-Err-TakeUnopened.ensures.count,
      record { printed = rw n.0 kept; reported = r.3 },
    )

pub returns-in-Err-LeftUnopened : goal.returns-in-Err-LeftUnopened
returns-in-Err-LeftUnopened g c =
    let r = c.report_unopened-in-Err-LeftUnopened.ensures in
    let n = unopened_prints _ _ r.0 r.2 in
    let kept = rw c.in-Err-LeftUnopened.field-0-is at c.in-Err-LeftUnopened.ensures.ends in (
      r.0,
      r.1,
      false,
      inr (inr (inr (record {
        kind = error_kind c.in-Err-LeftUnopened.error;
        gives = refl;
        reports = inr r.2;
      }))),
      rw c.in-Err-LeftUnopened.field-0-is at c.in-Err-LeftUnopened.ensures.count,
      record { printed = rw n.0 kept; reported = r.3 },
    )

pub returns-in-Err-Refused : goal.returns-in-Err-Refused
returns-in-Err-Refused g c =
    let line = c.refuse.ensures.line in
    let p = rw c.in-Err-Refused.field-0-is at c.in-Err-Refused.ensures.ends in (
      record {
        reads_all = true;
        out = Nothing;
        faults = line.0;
        exit = exit_on_conversion c.in-Err-Refused.fault.kind;
      },
      sym c.refuse.ensures.exit,
      true,
      inr (inl (record {
        fault = c.in-Err-Refused.fault;
        right = p.right;
        gives = refl;
        exit_is = refl;
        reads = refl;
        prints = refl;
        reports = line.1;
      })),
      rw c.in-Err-Refused.field-0-is at c.in-Err-Refused.ensures.count,
      record { printed = p.kept; reported = line.2 },
    )

pub returns-in-Err-Stopped : goal.returns-in-Err-Stopped
returns-in-Err-Stopped g c =
    let line = c.refuse-in-Err-Stopped.ensures.line in
    let p = rw c.in-Err-Stopped.field-0-is at c.in-Err-Stopped.ensures.ends in
    let printed = part_print g.W.Sink p.text _ _ p.prints in (
      record {
        reads_all = true;
        out = printed.0;
        faults = line.0;
        exit = exit_on_conversion c.read_fault.result.kind;
      },
      sym c.refuse-in-Err-Stopped.ensures.exit,
      true,
      inr (inr (inl (record {
        fault = c.read_fault.result;
        kind_is = ap (λ (f : ConvertFault). f.kind) c.read_fault.ensures;
        text = p.text;
        right = p.right;
        gives = refl;
        exit_is = refl;
        reads = refl;
        prints = printed.1.0;
        reports = line.1;
      }))),
      rw c.in-Err-Stopped.field-0-is at c.in-Err-Stopped.ensures.count,
      record { printed = printed.1.1; reported = line.2 },
    )

pub returns-in-Err-Unwritable : goal.returns-in-Err-Unwritable
returns-in-Err-Unwritable g c =
    let line = c.give_up.ensures.line in
    let p = rw c.in-Err-Unwritable.field-0-is at c.in-Err-Unwritable.ensures.ends in (
      record { reads_all = true; out = Part p.text; faults = line.0; exit = exits.Device },
      sym c.give_up.ensures.exit,
      true,
      inl (record { text = p.text; right = p.right; gives = refl; prints = (refl, inr (refl, refl, line.1)) }),
      rw c.in-Err-Unwritable.field-0-is at c.in-Err-Unwritable.ensures.count,
      record { printed = p.stops; reported = line.2 },
    )
