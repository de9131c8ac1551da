use Rattle.std.proofs.Common.{true, refl}
use Rattle.bw_commands.proofs.InspectionLemmas.{inspected-at}
use Rattle.bw_commands.proofs.inspection.inspect_file.Goals as goal

pub returns-in-Ok : goal.returns-in-Ok
returns-in-Ok g c =
    let i = c.inspect_run.ensures in (
      record i.0 { reads_all = true },
      i.1,
      true,
      record { reads = refl; reads_file = i.0.reads_all; is = inspected-at _ _ i.0 c.in-Ok.ensures.ok i.2 },
      refl,
      c.in-Ok.ensures.count,
      record { printed = i.4.printed; reported = i.4.reported },
    )
