use Rattle.std.proofs.Common.{◌∙◌, Ok, Err, refl, sym, ap}
use Rattle.bw_console.specs.Prints.{Nothing}
use Rattle.bw_console.specs.Faults.{exit_on}
use Rattle.bw_report.specs.FileFindings.{exit_of_found, worse}
use Rattle.bw_report.specs.Inputs.{is_read_by}
use Rattle.bw_report.proofs.LookLemmas.{none_worse}
use Rattle.bw_report.proofs.input.inspect_input.Goals as goal

pub returns-in-Ok : goal.returns-in-Ok
returns-in-Ok g c =
    let p = c.in-Ok.ensures in
    let found = c.look_at_input-found.result in (
      record { reads_all = is_read_by found; out = p.0; faults = Nothing; exit = exit_of_found found },
      sym c.exit.ensures,
      record {
        found = found;
        right = c.look_at_input-found.ensures.right;
        opened = c.look_at_input-found.ensures.opened;
        reads = refl;
        outcome = Ok tt;
        ends = none_worse (exit_of_found found);
        prints = p.1;
        reports = refl;
      },
      c.look_at_input-found.ensures.count,
      record { printed = p.2; reported = refl },
    )

pub returns : goal.returns
returns g c =
    let p = c.in-Err.ensures in
    let l = c.give_up.ensures.line in
    let found = c.look_at_input-found.result in (
      record {
        reads_all = is_read_by found;
        out = p.0;
        faults = l.0;
        exit = worse (exit_of_found found) (exit_on c.in-Err.fault);
      },
      sym (c.worse.ensures ∙ ap (λ x. worse x c.give_up.result) c.exit-in-Err.ensures
          ∙ ap (worse (exit_of_found found)) c.give_up.ensures.exit),
      record {
        found = found;
        right = c.look_at_input-found.ensures.right;
        opened = c.look_at_input-found.ensures.opened;
        reads = refl;
        outcome = Err c.in-Err.fault;
        ends = refl;
        prints = p.1;
        reports = l.1;
      },
      c.look_at_input-found.ensures.count,
      record { printed = p.2; reported = l.2 },
    )
