use Rattle.std.proofs.Common.{inl, inr, refl, sym, true}
use Rattle.bw_console.specs.Prints.{Nothing}
use Rattle.bw_console.specs.declared.exit.Exit.TheVariants as exits
use Rattle.bw_live.proofs.begun_spool.hold_begun.Goals as goal

pub returns-in_default : goal.returns-in_default
returns-in_default g c =
    let l = c.give_up.ensures.line in inl (
      (
        record { reads_all = true; out = Nothing; faults = l.0; exit = exits.Memory },
        sym c.give_up.ensures.exit,
        l.2,
        inr (record { exit_is = refl; reads = refl; prints = refl; reports = l.1 }),
      ),
      refl,
    )
