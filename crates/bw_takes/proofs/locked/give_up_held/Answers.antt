use Rattle.std.proofs.Common.{rules, refl, sym, Err}
use Rattle.bw_take_files.specs.declared.giving_up.GiveUpFault.TheVariants.{Memory}
use Rattle.bw_takes.proofs.EndLemmas.{is_out_of_memory, out_of_memory}
use Rattle.bw_takes.proofs.locked.give_up_held.Goals as goal

pub returns-in-Err-Memory : goal.returns-in-Err-Memory
returns-in-Err-Memory g c =
    let l = c.give_up.ensures.line in (
      out_of_memory l.0,
      sym c.give_up.ensures.exit,
      record {
        answer = Err Memory;
        leaves = search rules;
        honest = search rules;
        failures = search rules;
        told = is_out_of_memory l.0 l.1;
      },
      record { printed = refl; reported = l.2 },
    )
