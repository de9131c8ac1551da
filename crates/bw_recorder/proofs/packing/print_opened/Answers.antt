use Rattle.std.proofs.Common.{Ok, Err, refl}
use Rattle.bw_console.specs.Prints.{Nothing}
use Rattle.bw_recorder.proofs.packing.print_opened.Goals as goal

pub returns-in-Ok : goal.returns-in-Ok
returns-in-Ok g c = let p = c.in-Ok.ensures in (Ok tt, refl, p.0, p.1, Nothing, p.2, p.3, refl, p.4, refl)

pub returns-in-Err : goal.returns-in-Err
returns-in-Err g c =
    let p = c.in-Err.ensures in
    let l = c.report_pack_fault.ensures.line in
    (Err c.in-Err.fault, c.report_pack_fault.ensures.exit, p.0, p.1, l.0, p.2, p.3, l.1, p.4, l.2)
