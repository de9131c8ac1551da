use Rattle.std.proofs.Common.{inr, refl, sym, true}
use Rattle.bw_console.specs.Prints.{Nothing}
use Rattle.bw_console.specs.declared.exit.Exit.TheVariants as exits
use Rattle.bw_program.proofs.several.say_line.Goals as goal

pub returns-in-Err : goal.returns-in-Err
returns-in-Err g c =
    let l = c.give_up.ensures.line in record {
      did = record { reads_all = true; out = Nothing; faults = l.0; exit = exits.Memory };
      ends = sym c.give_up.ensures.exit;
      is = inr (record { exit_is = refl; reads = refl; prints = refl; reports = l.1 });
      writes = record { printed = refl; reported = l.2 };
    }
