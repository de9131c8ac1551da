use Rattle.std.proofs.Common.{List, ℕ, Global, Option, Vec, option_map, option_to_list, subst, sym}
use Rattle.bw_console.specs.Prints.{IsOf, IsPrint, Print}
use Rattle.bw_live.specs.MarkLooks.{ArePrinted}
use Rattle.bw_live.proofs.SeenSteps.{nothing_printed, one_printed}
use Rattle.bw_live.proofs.keeper.print_report.Goals as goal

pub returns-in_default : goal.returns-in_default
returns-in_default g c =
    subst (λ (z : Option (Vec ℕ Global)). ArePrinted g.E.Sink (option_to_list (option_map (λ text. text.items) z))
    c.args.faults.now c.args.faults.now)
    (sym c.in_default.is) (nothing_printed g.E.Sink c.args.faults.now)

pub returns : goal.returns
returns g c =
    let old = c.args.faults.now in
    let new = c.print_diagnostic.new.faults in
    subst (λ (z : Option (Vec ℕ Global)). ArePrinted g.E.Sink (option_to_list (option_map (λ text. text.items) z)) old new)
    (sym c.in-Some.is)
    (one_printed g.E.Sink c.in-Some.text.items old new
    (subst (λ (z : List ℕ). (print : Print) × IsOf z print × IsPrint g.E.Sink print old new) c.as_slice.ensures.value
    c.print_diagnostic.ensures))
