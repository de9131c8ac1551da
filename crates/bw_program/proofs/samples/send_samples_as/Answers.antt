use Rattle.std.proofs.Common.{◌∙◌, ◌++◌, ap, inl, inr, map, refl, string_bytes, sym, true}
use Rattle.bw_console.specs.Prints.{Nothing}
use Rattle.bw_console.specs.declared.exit.Exit.TheVariants as exits
use Rattle.bw_program.proofs.samples.send_samples_as.Goals as goal

pub returns-in-Ok : goal.returns-in-Ok
returns-in-Ok g c =
    let d = c.in-Ok.ensures in
    let p = c.purpose_of.ensures in
    let all = ap (map string_bytes) c.as_slice.ensures.value ∙ d.2
    ∙ ap (λ l. d.0 ++ map string_bytes l) c.as_slice-given.ensures.value in
    let sent = rw all at c.send_set.ensures in record {
      sent = inl (d.0, rw (p.name, p.rate, p.channels, p.bits) at d.1, sent.sent);
      well = sent.well;
      unused = sent.unused;
      unread = sent.unread;
      kept = sent.kept;
    }

pub returns-in-Err : goal.returns-in-Err
returns-in-Err g c =
    let l = c.give_up.ensures.line in record {
      sent = inr (record {
        did = record { is_system_well = true; warned = Nothing; out = Nothing; faults = l.0; exit = exits.Memory };
        ends = sym c.give_up.ensures.exit;
        is = record { exit_is = refl; well = refl; warned = refl; prints = refl; reports = l.1 };
        files_are = refl;
        unpaused = refl;
        writes = record { between = c.args.outside.now.faults; warns = refl; prints = refl; reports = l.2 };
      });
      well = refl;
      unused = refl;
      unread = refl;
      kept = refl;
    }
