use Rattle.std.proofs.Common.{true, refl, subst}
use Rattle.std.specs.Prelude.{List, ℕ}
use Rattle.bw_recorder.specs.Packs.{IsReportedText}
use Rattle.bw_recorder.proofs.PackSteps.{at_once, opens_nothing, packs, refusal, refused, unopened}
use Rattle.bw_recorder.proofs.packing.pack.Goals as goal

pub returns-in-Err : goal.returns-in-Err
returns-in-Err g c =
    let r = c.refuse_options.ensures in (
      refusal c.refuse_options.result r.0,
      refl,
      at_once (refused _ _ _ c.in-Err.fault _ r.0 c.in-Err.ensures.err r.1),
      refl,
      record { between = c.args.faults.now; warns = refl; prints = refl; reports = r.2 },
    )

pub returns-in-Ok-open_recording : goal.returns-in-Ok-open_recording
returns-in-Ok-open_recording g c =
    let w = c.warn.ensures in
    let p = c.print_opened.ensures in (
      record { is_system_well = true; warned = w.0; out = p.3; faults = p.4; exit = c.print_opened.result },
      refl,
      packs _ _ _ _ _ c.in-Ok.options c.in-Ok.ensures.ok c.in-Ok-open_recording.opened.plan
          c.in-Ok-open_recording.opened.warnings.items _ p.0 p.2 w.0 p.3 p.4
          c.print_opened.result c.in-Ok-open_recording.ensures.ok c.in-Ok-open_recording.ensures.sound p.5
          (subst (λ (t : List ℕ). IsReportedText t w.0) c.as_slice.ensures.value w.1) p.6 p.7 p.1,
      c.in-Ok-open_recording.ensures.count,
      record { between = c.warn.new.faults; warns = w.2; prints = p.8; reports = p.9 },
    )

pub returns : goal.returns
returns g c =
    let r = c.report_open_fault.ensures in
    let fault = c.in-Err-open_recording.fault in (
      unopened fault c.report_open_fault.result r.0,
      refl,
      opens_nothing _ _ _ _ _ c.in-Ok.options c.in-Ok.ensures.ok fault r.0 c.report_open_fault.result
          c.in-Err-open_recording.ensures.err r.1,
      c.in-Err-open_recording.ensures.count,
      record { between = c.args.faults.now; warns = refl; prints = refl; reports = r.2 },
    )
