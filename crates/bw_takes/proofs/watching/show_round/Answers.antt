use Rattle.std.proofs.Common.{inl, refl}
use Rattle.bw_takes.proofs.RoundLemmas.{end_is, round_is, unprinted}
use Rattle.bw_takes.proofs.watching.show_round.Goals as goal

pub returns-in-Ok-clause-ok : goal.returns-in-Ok-clause-ok
returns-in-Ok-clause-ok g c =
    let s = c.show_read.ensures in
    round_is _ _ _ _ (λ rows. rows.items) _ _ _ _ _ c.deref.ensures.value c.in-Ok.ensures.ok s.rows s.printed s.waited s.unreported

pub returns-in-Ok-clause-err : goal.returns-in-Ok-clause-err
returns-in-Ok-clause-err g c =
    end_is _ _ _ _ (λ rows. rows.items) _ _ _ _ _ c.deref.ensures.value c.in-Ok.ensures.ok c.show_read.ensures.err

pub returns-in-Err-clause-err : goal.returns-in-Err-clause-err
returns-in-Err-clause-err g c =
    let l = c.report_fault.ensures in
    record {
      did = l.0;
      ends = l.1;
      is = inl (_, c.in-Err.ensures.err, l.2);
      writes = record { printed = unprinted g.W.Sink _ _ l.0 _ l.2; reported = l.3 };
      unpaused = refl;
    }
