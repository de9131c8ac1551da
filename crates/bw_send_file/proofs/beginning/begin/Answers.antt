use Rattle.std.proofs.Common.{◌∙◌, Bool, List, ℕ, ap, inl, inr, refl, subst, sym, true}
use Rattle.std.proofs.lemmas.Result.{err_from_is_err_and}
use Rattle.std.specs.IoError.{error_kind}
use Rattle.bw_console.specs.Prints.{IsPrint, Nothing, failures_if}
use Rattle.bw_send_file.specs.FoundCounts.{IsStateFound}
use Rattle.bw_send_file.proofs.BeginSteps.{ended_with, sends_nothing, silent_of, well_of}
use Rattle.bw_send_file.proofs.beginning.begin.Goals as goal

pub returns-in_err-header-clause-err : goal.returns-in_err-header-clause-err
returns-in_err-header-clause-err g c =
    let answer = err_from_is_err_and c.from_residual.result c.from_residual.ensures.1 in
    let b = c.in_err-header.ensures.err in
    rw (answer.1, answer.2) (
      record { is_state_well = true; began = Nothing; sent = b.0; unkept = Nothing; exit = b.0.exit },
      b.1,
      inl (
        record {
          unsent = record { silent = silent_of _ _ _ _ _ _ b.2; keeps = refl; exit_is = refl };
          unbegun = record { states = refl; began = refl };
          unasked = refl;
        },
        inl b.2,
      ),
      b.3,
      refl,
      record { begun = c.args.faults.now; begins = refl; reports = b.4 },
    )

pub returns-in-Err-clause-err : goal.returns-in-Err-clause-err
returns-in-Err-clause-err g c =
    let r = c.report_unkept.ensures in
    let w = well_of _ _ _ c.in-Err.ensures.err in (
      ended_with w.0 Nothing c.report_unkept.result r.0,
      refl,
      inl (
        record {
          unsent = sends_nothing w.0 Nothing c.report_unkept.result r.0;
          unbegun = record { states = c.in-Err.ensures.kept; began = refl };
          unasked = refl;
        },
        inr (record {
          foreign = w.2;
          kind = error_kind c.in-Err.error;
          ends = record { well = refl; reports = r.1 };
        }),
      ),
      c.in_ok-header.ensures.well,
      w.1,
      record { begun = c.read_header.new.faults; begins = c.in_ok-header.ensures.quiet; reports = r.2 },
    )

pub returns-in_err-count-clause-err : goal.returns-in_err-count-clause-err
returns-in_err-count-clause-err g c =
    let answer = err_from_is_err_and c.from_residual-in_err-count.result c.from_residual-in_err-count.ensures.1 in
    let b = c.in_err-count.ensures.err in
    rw (answer.1, answer.2) (
      record { is_state_well = true; began = Nothing; sent = b.0; unkept = Nothing; exit = b.0.exit },
      b.1,
      inr (record {
        unsent = record { silent = b.2; keeps = refl; exit_is = refl };
        header = c.in_ok-header.header.text.items;
        found = c.in-Ok.found;
        knows = record {
          of_take = c.in_ok-header.ensures.ok;
          says = subst (λ (h : List ℕ).
              IsStateFound (g.B.StateFiles.state_at c.args.states.now c.args.asked.now.job.place.path.now) h c.in-Ok.found)
              c.as_slice.ensures.value c.in-Ok.ensures.found;
        };
        why = inl (b.3, record { states = c.in-Ok.ensures.kept; began = refl });
      }),
      c.in_ok-header.ensures.well ∙ ap (λ (w : Bool). failures_if w (g.F.RecordingFiles.failures c.args.files.now)) (sym b.3.well),
      c.in-Ok.ensures.count,
      record { begun = c.read_header.new.faults; begins = c.in_ok-header.ensures.quiet; reports = b.4 },
    )

pub returns-clause-err : goal.returns-clause-err
returns-clause-err g c =
    let r = c.report_unkept-in-Err-open_log.ensures in
    let s = c.in_ok-count.ensures.ok in
    let w = well_of _ _ _ c.in-Err-open_log.ensures.err in (
      ended_with w.0 s.0 c.report_unkept-in-Err-open_log.result r.0,
      refl,
      inr (record {
        unsent = sends_nothing w.0 s.0 c.report_unkept-in-Err-open_log.result r.0;
        header = c.in_ok-header.header.text.items;
        found = c.in-Ok.found;
        knows = record {
          of_take = c.in_ok-header.ensures.ok;
          says = subst (λ (h : List ℕ).
              IsStateFound (g.B.StateFiles.state_at c.args.states.now c.args.asked.now.job.place.path.now) h c.in-Ok.found)
              c.as_slice.ensures.value c.in-Ok.ensures.found;
        };
        why = inr (record {
          count = c.in_ok-count.count;
          starts = s.1;
          kind = error_kind c.in-Err-open_log.error;
          failed = w.2;
          ends = record { well = refl; reports = r.1 };
        });
      }),
      c.in_ok-header.ensures.well,
      w.1 ∙ ap (failures_if w.0) c.in-Ok.ensures.count,
      record {
        begun = c.begin_at.new.faults;
        begins = subst (λ (f : _). IsPrint g.X.Diagnostics.Sink s.0 f c.begin_at.new.faults) c.in_ok-header.ensures.quiet s.2;
        reports = r.2;
      },
    )
