use Rattle.std.proofs.Common.{true, refl, subst, inl, inr, List, ℕ}
use Rattle.bw_console.specs.Prints.{Nothing}
use Rattle.bw_console.specs.Outcomes.{PrintsText}
use Rattle.bw_recorder.specs.Openings.{is_well_at}
use Rattle.bw_picture.proofs.command.draw_file.Goals as goal

pub returns-in-Ok : goal.returns-in-Ok
returns-in-Ok g c =
    let p = c.print_text.ensures in (
      p.0,
      p.1,
      true,
      inl (record {
        text = c.in-Ok.text.items;
        right = c.in-Ok.ensures.ok;
        gives = refl;
        prints = subst (λ (t : List ℕ). PrintsText t p.0) c.as_slice.ensures.value p.2;
      }),
      c.in-Ok.ensures.count,
      p.3,
    )

pub returns-in-Err : goal.returns-in-Err
returns-in-Err g c =
    let r = c.report_open_fault.ensures in
    let fault = c.in-Err.fault in (
      record { reads_all = true; out = Nothing; faults = r.0; exit = c.report_open_fault.result },
      refl,
      is_well_at fault,
      inr (record {
        fault = fault;
        right = c.in-Err.ensures.err;
        gives = refl;
        reads = refl;
        prints = refl;
        reports = r.1;
      }),
      c.in-Err.ensures.count,
      record { printed = refl; reported = r.2 },
    )
