use Rattle.std.proofs.Common.{Ok, Err, true, refl, sym}
use Rattle.bw_console.specs.Faults.{exit_on, is_readable}
use Rattle.bw_upload.proofs.sending.send_run.Goals as goal

pub returns-in-Ok-clause-did : goal.returns-in-Ok-clause-did
returns-in-Ok-clause-did g c =
    let exit = c.in-Ok.exit in
    let p = c.in-Ok.ensures.prints in
    let l = c.report_of_exit.ensures.reported in (
      record { reads_all = true; out = p.0; faults = l.0; exit = exit },
      sym c.report_of_exit.ensures.exit,
      record { outcome = Ok exit; exit_is = refl; reads = refl; prints = p.1; reports = l.1 },
      c.in-Ok.ensures.count,
      record { printed = p.2; reported = l.2 },
    )

pub returns-in-Err-clause-did : goal.returns-in-Err-clause-did
returns-in-Err-clause-did g c =
    let fault = c.in-Err.fault in
    let p = c.in-Err.ensures.prints in
    let l = c.give_up.ensures.line in (
      record { reads_all = is_readable fault; out = p.0; faults = l.0; exit = exit_on fault },
      sym c.give_up.ensures.exit,
      record { outcome = Err fault; exit_is = refl; reads = refl; prints = p.1; reports = l.1 },
      c.in-Err.ensures.count,
      record { printed = p.2; reported = l.2 },
    )
