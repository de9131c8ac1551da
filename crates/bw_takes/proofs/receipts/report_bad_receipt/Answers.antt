use Rattle.std.proofs.Common.{inl, inr, true, refl, sym}
use Rattle.bw_console.specs.Prints.{Nothing, IsOf}
use Rattle.bw_console.specs.declared.exit.Exit.TheVariants.{Refused}
use Rattle.bw_takes.specs.ReceiptChecks.{bad_receipt_text}
use Rattle.bw_takes.proofs.EndLemmas.{is_out_of_memory, out_of_memory}
use Rattle.bw_takes.proofs.receipts.report_bad_receipt.Goals as goal

pub returns-in_default : goal.returns-in_default
returns-in_default g c =
    let l = c.give_up.ensures.line in
    (out_of_memory l.0, sym c.give_up.ensures.exit, inr (is_out_of_memory l.0 l.1), l.2)

pub returns : goal.returns
returns g c =
    let l = c.print_diagnostic.ensures in
    let reported : IsOf (bad_receipt_text c.args.path.now c.args.number) l.0 =
    rw (c.as_bytes.ensures.value, c.as_str.ensures.value, c.in-Ok.ensures) at l.1 in (
      record { reads_all = true; out = Nothing; faults = l.0; exit = Refused },
      refl,
      inl (record { prints = refl; reports = reported; exit_is = refl; reads = refl }),
      l.2,
    )
