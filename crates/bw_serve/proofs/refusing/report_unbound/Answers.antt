use Rattle.std.proofs.Common.{inr, refl, sym, true}
use Rattle.bw_console.specs.Prints.{Nothing}
use Rattle.bw_console.specs.declared.exit.Exit.TheVariants.{Memory}
use Rattle.bw_serve.proofs.refusing.report_unbound.Goals as goal

pub returns-in_default : goal.returns-in_default
returns-in_default g c =
    let l = c.give_up.ensures.line in
    record {
      did = record { reads_all = true; out = Nothing; faults = l.0; exit = Memory };
      ends = sym c.give_up.ensures.exit;
      is = inr (record { exit_is = refl; reads = refl; prints = refl; reports = l.1 });
      reports = l.2;
    }
