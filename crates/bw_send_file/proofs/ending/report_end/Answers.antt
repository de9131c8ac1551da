use Rattle.std.proofs.Common.{◌≡◌, ◌∙◌, ℕ, List, true, refl, sym, subst, inl, inr}
use Rattle.bw_console.specs.Prints.{HasPrinted, HasStopped, Nothing, Whole, Part}
use Rattle.bw_console.specs.declared.exit.Exit.TheVariants as exits
use Rattle.bw_upload.specs.SenderText.{sender_text}
use Rattle.bw_send_file.proofs.ending.report_end.Goals as goal

pub returns-in_default : goal.returns-in_default
returns-in_default g c = λ s is.
    let l = c.give_up.ensures.line in (
      record { reads_all = true; out = Nothing; faults = l.0; exit = exits.Memory },
      sym c.give_up.ensures.exit,
      inr (inr (record { exit_is = refl; reads = refl; prints = refl; reports = l.1 })),
      record { printed = refl; reported = l.2 },
    )

pub returns-in-Ok-print : goal.returns-in-Ok-print
returns-in-Ok-print g c = λ s is.
    let r = c.report_outcome.ensures in
    let text : c.as_slice.result.now ≡ sender_text s = c.as_slice.ensures.value ∙ c.in-Ok.ensures s is in (
      record { reads_all = true; out = Whole (sender_text s); faults = r.0; exit = c.report_outcome.result },
      refl,
      inl (record { prints = refl; reports = r.1 }),
      record {
        printed = subst (λ (t : List ℕ). HasPrinted g.W.Sink t c.args.out.now c.print.new.out) text
            c.in-Ok-print.ensures.ok;
        reported = r.2;
      },
    )

pub returns : goal.returns
returns g c = λ s is.
    let l = c.give_up-in-Err.ensures.line in
    let text : c.as_slice.result.now ≡ sender_text s = c.as_slice.ensures.value ∙ c.in-Ok.ensures s is in (
      record { reads_all = true; out = Part (sender_text s); faults = l.0; exit = exits.Device },
      sym c.give_up-in-Err.ensures.exit,
      inr (inl (record { prints = refl; exit_is = refl; reports = l.1 })),
      record {
        printed = subst (λ (t : List ℕ). HasStopped g.W.Sink t c.args.out.now c.print.new.out) text c.in-Err.ensures.err;
        reported = l.2;
      },
    )
