-- What a command did whose file was opened, by what sending it printed and reported.
use Rattle.std.proofs.Common.{true}
use Rattle.bw_console.specs.Outcomes.{Outcome as Did}
use Rattle.bw_console.specs.Prints.{Print}
use Rattle.bw_console.specs.declared.exit.Exit.{Exit}
use Rattle.bw_recorder.specs.Packs.{Packing}

abbrev pub sent_so : Print → Did → Exit → Packing
sent_so warned sent exit =
    record { is_system_well = true; warned = warned; out = sent.out; faults = sent.faults; exit = exit }
