use Rattle.std.proofs.Common.{true, refl, sym}
use Rattle.bw_console.specs.Prints.{Nothing, IsOf}
use Rattle.bw_console.specs.declared.exit.Exit.TheVariants.{Device}
use Rattle.bw_takes.specs.GiveUpShowings.{running_text}
use Rattle.bw_takes.proofs.EndLemmas.{is_out_of_memory, out_of_memory}
use Rattle.bw_takes.proofs.locked.report_locked.Goals as goal

pub returns-in-Running : goal.returns-in-Running
returns-in-Running g c =
    let l = c.print_diagnostic.ensures in
    let reported : IsOf running_text l.0 = rw c.as_bytes.ensures.value at l.1 in (
      record { reads_all = true; out = Nothing; faults = l.0; exit = Device },
      refl,
      rw c.in-Running.is (record { prints = refl; reports = reported; exit_is = refl; reads = refl }),
      l.2,
    )

pub returns-in-Memory : goal.returns-in-Memory
returns-in-Memory g c =
    let l = c.give_up.ensures.line in
    (out_of_memory l.0, sym c.give_up.ensures.exit, rw c.in-Memory.is (is_out_of_memory l.0 l.1), l.2)
