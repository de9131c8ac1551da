use Rattle.std.proofs.Common.{◌≡◌, rules, sym}
use Rattle.bw_disk.specs.declared.reading.ReadFault.TheVariants.{Memory as MemoryFault}
use Rattle.bw_takes.proofs.EndLemmas.{is_out_of_memory, out_of_memory}
use Rattle.bw_takes.proofs.RoundLemmas.{memory_told}
use Rattle.bw_takes.proofs.watching.report_fault.Goals as goal

pub returns-in-Memory : goal.returns-in-Memory
returns-in-Memory g c =
    let l = c.give_up.ensures.line in
    let is : c.args.fault ≡ MemoryFault = search rules in
    (out_of_memory l.0, sym c.give_up.ensures.exit, memory_told _ _ _ is (is_out_of_memory l.0 l.1), l.2)
