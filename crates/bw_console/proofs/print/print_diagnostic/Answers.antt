use Rattle.bw_console.proofs.PrintLemmas.{tried}
use Rattle.bw_console.proofs.print.print_diagnostic.Goals as goal

pub returns : goal.returns
returns g c = tried g.E.Sink _ _ _ c.print.result c.print.ensures.ok c.print.ensures.err
