use Rattle.std.proofs.Common.{inr, refl, rules}
use Rattle.bw_console.specs.Prints.{IsOf}
use Rattle.bw_takes.proofs.printing.report_entries.Goals as goal

pub returns : goal.returns
returns g c =
    let l = c.print_diagnostic.ensures in
    let told : IsOf c.args.report.now.unread.items l.0 = rw (c.as_slice.ensures.value) at l.1 in
    inr (search rules, refl, (l.0, told, l.2))
