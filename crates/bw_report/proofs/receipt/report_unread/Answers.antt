use Rattle.std.proofs.Common.{◌≡◌, ◌∙◌, inl, inr, true, refl, sym}
use Rattle.bw_console.specs.Prints.{IsOf, Nothing}
use Rattle.bw_console.specs.declared.exit.Exit.TheVariants.{Device, Memory}
use Rattle.bw_report.specs.Receipts.{unread_recording_text}
use Rattle.bw_report.proofs.receipt.report_unread.Goals as goal

pub returns-in_default : goal.returns-in_default
returns-in_default g c =
    let l = c.give_up.ensures.line in (
      record { reads_all = true; out = Nothing; faults = l.0; exit = Memory },
      sym c.give_up.ensures.exit,
      inr (record { exit_is = refl; reads = refl; prints = refl; reports = l.1 }),
      l.2,
    )

pub returns : goal.returns
returns g c =
    let l = c.print_diagnostic.ensures in
    let is : c.as_bytes.result.now ≡ unread_recording_text c.args.path.now =
    c.as_bytes.ensures.value ∙ c.as_str.ensures.value ∙ c.in-Ok.ensures in
    let reported : IsOf (unread_recording_text c.args.path.now) l.0 = rw is at l.1 in (
      record { reads_all = true; out = Nothing; faults = l.0; exit = Device },
      refl,
      inl (record { exit_is = refl; reads = refl; prints = refl; reports = reported }),
      l.2,
    )
