use Rattle.std.proofs.Common.{◌≡◌, ◌∙◌, true, refl, sym}
use Rattle.bw_console.specs.Prints.{IsOf, Nothing}
use Rattle.bw_repair.specs.Conversions.{exit_on_conversion}
use Rattle.bw_repair.specs.LeftTexts.{keep_line}
use Rattle.bw_repair.proofs.left_out.keeping.refuse.Goals as goal

pub returns : goal.returns
returns g c =
    let l = c.print_diagnostic.ensures in
    let is : c.as_bytes.result.now ≡ keep_line c.args.fault.now =
    c.as_bytes.ensures.value ∙ (c.as_str.ensures.value ∙ c.keep_line.ensures) in
    let reported : IsOf (keep_line c.args.fault.now) l.0 = rw is at l.1 in (
      record { reads_all = true; out = Nothing; faults = l.0; exit = exit_on_conversion c.args.fault.now.kind },
      sym c.exit_on.ensures,
      record { exit_is = refl; reads = refl; prints = refl; reports = reported },
      l.2,
    )
