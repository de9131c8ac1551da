use Rattle.std.proofs.Common.{inr, refl, sym, true}
use Rattle.bw_console.specs.Prints.{Nothing}
use Rattle.bw_console.specs.declared.exit.Exit.TheVariants.{Memory}
use Rattle.bw_report.proofs.ReceiptLemmas.{is_line, unread}
use Rattle.bw_report.proofs.receipt.found_line.Goals as goal

pub returns-in_default-clause-err : goal.returns-in_default-clause-err
returns-in_default-clause-err g c = λ n.
    let did = c.refuse.ensures in unread g.E.Sink c.args.job.now.source.now _ _ _ did.0 did.1 did.3 n did.2

pub returns-in-Ok-clause-ok : goal.returns-in-Ok-clause-ok
returns-in-Ok-clause-ok g c = (
  λ b has. is_line _ _ _ _ _ (rw c.in-Some.is at has) c.in-Ok.ensures,
  refl,
)

pub returns-in-Err-clause-err : goal.returns-in-Err-clause-err
returns-in-Err-clause-err g c = λ n.
    let l = c.give_up.ensures.line in
    unread g.E.Sink c.args.job.now.source.now _ _ _
    (record { reads_all = true; out = Nothing; faults = l.0; exit = Memory }) (sym c.give_up.ensures.exit) l.2 n
    (inr (record { exit_is = refl; reads = refl; prints = refl; reports = l.1 }))
