use Rattle.std.proofs.Common.{inl, inr, refl, rules, sym}
use Rattle.bw_console.specs.declared.exit.Exit.TheVariants as exits
use Rattle.bw_recorder.proofs.PackSteps.{refusal}
use Rattle.bw_send_file.proofs.starting.begin_at.Goals as goal

pub returns-in-Err-Fruitless-clause-err : goal.returns-in-Err-Fruitless-clause-err
returns-in-Err-Fruitless-clause-err g c =
    let r = c.print_diagnostic.ensures in (
      refusal exits.Device r.0,
      refl,
      record { warned = refl; prints = refl },
      record { some = search rules; well = refl; why = inl (search rules, (refl, r.1)) },
      r.2,
    )

pub returns-in-Err-Memory-clause-err : goal.returns-in-Err-Memory-clause-err
returns-in-Err-Memory-clause-err g c =
    let r = c.give_up.ensures.line in (
      refusal exits.Memory r.0,
      sym c.give_up.ensures.exit,
      record { warned = refl; prints = refl },
      record { some = search rules; well = refl; why = inr (search rules, (refl, r.1)) },
      r.2,
    )
